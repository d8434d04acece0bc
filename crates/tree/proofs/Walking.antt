-- What the walk over the tree learns: of an atom, of a list of atoms, and of a body whose atoms are all seen.
-- Assumes nothing.
use Prim.Native.Nat.{ℕ, zero, suc, ◌-◌, ◌≤◌, ◌<◌}
use mathlib.Core.Path.{◌≡◌, refl, sym, ap, ◌∙◌}
use mathlib.Core.List.{List, [], ◌∷◌}
use mathlib.Core.Bool.{Bool, true, false, cond, ◌&&◌}
use lib.ListN.{length, take, drop}
use lib.Dec.{eqb}
use Rattle.atoms.specs.Kinds.{container}
use Rattle.atoms.specs.Atoms.{kind_of, body_of, size_in, atoms, filled}
use Rattle.atoms.specs.Tree.{all, everywhere}
use Rattle.presence.specs.declared.Counts.{Counts}
use Rattle.presence.specs.Present.{present}
use Rattle.presence.specs.Counts.{nothing_counted, with_kind, with_atoms, present_by}
use Rattle.leaves.specs.Leaves.{Version, Size}
use Rattle.leaves.specs.declared.Form.TheVariants.{Skipped}
use Rattle.leaves.specs.Leaves.{form_of, skipped, version_ok, size_ok, leaf_ok, atom_ok, leaves_ok}
use Rattle.tree.specs.declared.Checks.{Checks}
use Rattle.tree.specs.Checks.{all_right, none_right, both_checks, leaf_checks, tree_checks, Unruled}
use borrow.Author.Tests.{ne_eqb}
use native.Mathlib.Omega.{arith}
use Rattle.atoms.proofs.Pieces.{filled_end}
use Rattle.atoms.proofs.Laws.{below, everywhere_open, atoms_none, atoms_next, fill_stop, fill_next}
use Rattle.presence.proofs.Counting.{counts_in, present-by}

pub not_left : true ≡ false → ⊥
not_left e = let z : ◌≡◌ {A = ℕ} 0 1 = ap (λ b. cond b 0 1) e in omega arith

and_assoc : (a b c : Bool) → ((a && b) && c) ≡ (a && (b && c))
and_assoc true b c = refl
and_assoc false b c = refl

and_unit : (a : Bool) → (a && true) ≡ a
and_unit true = refl
and_unit false = refl

-- of two pairs
and_pairs : (a b c d : Bool) → ((a && b) && (c && d)) ≡ ((a && c) && (b && d))
and_pairs true true c d = refl
and_pairs true false true d = refl
and_pairs true false false d = refl
and_pairs false b c d = refl

checks_are : (a b : Checks) → a.filled ≡ b.filled → a.present ≡ b.present → a.versions ≡ b.versions → a.sizes ≡ b.sizes → a ≡ b
checks_are a b e f g h i = record { filled = e i; present = f i; versions = g i; sizes = h i }

pub both_assoc : (a b c : Checks) → both_checks (both_checks a b) c ≡ both_checks a (both_checks b c)
both_assoc a b c =
    checks_are _ _
    (and_assoc a.filled b.filled c.filled)
    (and_assoc a.present b.present c.present)
    (and_assoc a.versions b.versions c.versions)
    (and_assoc a.sizes b.sizes c.sizes)

both_unit : (a : Checks) → both_checks a all_right ≡ a
both_unit a = checks_are _ _ (and_unit _) (and_unit _) (and_unit _) (and_unit _)

module _ (wide : Bool) (n p : ℕ) where
  -- an atom, as a leaf and with what is below it, n levels deep
  unfoldable pub atom_checks : List ℕ → Checks
  atom_checks a =
      record {
        filled = below filled n p a;
        present = below (present wide) n p a;
        versions = atom_ok Version wide p a && below (leaves_ok Version wide) n p a;
        sizes = atom_ok Size wide p a && below (leaves_ok Size wide) n p a;
      }

  unfoldable pub all_checks : List (List ℕ) → Checks
  all_checks [] = all_right
  all_checks (a ∷ l) = both_checks (atom_checks a) (all_checks l)

  pub atom_container : (k : ℕ) (a s : List ℕ) (q : Bool) (leaf sub : Checks) → k ≡ kind_of a → q ≡ container p k → q ≡ true → s ≡ body_of a
      → leaf ≡ leaf_checks wide p k a → sub ≡ tree_checks wide n k s → both_checks leaf sub ≡ atom_checks a
  unfolding atom_checks
  atom_container k a s q leaf sub e f g h i j = rw (i, j, ← e, ← f, g, ← h)

  pub atom_leaf : (k : ℕ) (a : List ℕ) (q : Bool) (leaf : Checks) → k ≡ kind_of a → q ≡ container p k → q ≡ false → leaf ≡ leaf_checks wide p k a → leaf ≡ atom_checks a
  unfolding atom_checks
  atom_leaf k a q leaf e f g i = i ∙ rw (← e, ← f, g) (checks_are _ _ refl refl (sym (and_unit _)) (sym (and_unit _)))

  -- one of which no rule speaks
  pub atom_other : (k : ℕ) (a : List ℕ) (found : Checks) → k ≡ kind_of a → Unruled k → found ≡ both_checks found (atom_checks a)
  unfolding atom_checks skipped version_ok size_ok leaf_ok
  atom_other k a found e o =
      let f : (x : Bool) → form_of x p (kind_of a) ≡ Skipped = λ x. rw (← e) (o.unread x p) in
      let g : container p (kind_of a) ≡ false = rw (← e) (o.leaf p) in
      sym (ap (both_checks found) (checks_are (atom_checks a) all_right (rw g) (rw g) (rw (f wide, g)) (rw (f wide, g))) ∙ both_unit found)

  filled_all : (l : List (List ℕ)) → (all_checks l).filled ≡ all (below filled n p) l
  unfolding all_checks atom_checks all
  filled_all [] = refl
  filled_all (a ∷ l) = ap (λ b. below filled n p a && b) (filled_all l)

  present_all : (l : List (List ℕ)) → (all_checks l).present ≡ all (below (present wide) n p) l
  unfolding all_checks atom_checks all
  present_all [] = refl
  present_all (a ∷ l) = ap (λ b. below (present wide) n p a && b) (present_all l)

  versions_all : (l : List (List ℕ)) → (all_checks l).versions ≡ (all (atom_ok Version wide p) l && all (below (leaves_ok Version wide) n p) l)
  unfolding all_checks atom_checks all
  versions_all [] = refl
  versions_all (a ∷ l) =
      ap (λ b. atom_ok Version wide p a && below (leaves_ok Version wide) n p a && b) (versions_all l) ∙ and_pairs (atom_ok Version wide p a) _ _ _

  sizes_all : (l : List (List ℕ)) → (all_checks l).sizes ≡ (all (atom_ok Size wide p) l && all (below (leaves_ok Size wide) n p) l)
  unfolding all_checks atom_checks all
  sizes_all [] = refl
  sizes_all (a ∷ l) =
      ap (λ b. atom_ok Size wide p a && below (leaves_ok Size wide) n p a && b) (sizes_all l) ∙ and_pairs (atom_ok Size wide p a) _ _ _

-- the rules of a body itself, but for its leaves
abbrev pub own_checks : Bool → ℕ → List ℕ → Checks
own_checks wide p s = record { filled = filled p s; present = present wide p s; versions = true; sizes = true }

-- with m levels
module _ (wide : Bool) (m p : ℕ) (s : List ℕ) where
  pub tree_none : m ≡ 0 → none_right ≡ tree_checks wide m p s
  unfolding everywhere
  tree_none e = rw e

  tree_open : 0 < m → both_checks (own_checks wide p s) (all_checks wide (m - 1) p (atoms p s)) ≡ tree_checks wide m p s
  tree_open h =
      checks_are _ _
      (ap (λ b. filled p s && b) (filled_all wide (m - 1) p (atoms p s)) ∙ sym (everywhere_open filled m p s h))
      (ap (λ b. present wide p s && b) (present_all wide (m - 1) p (atoms p s)) ∙ sym (everywhere_open (present wide) m p s h))
      (versions_all wide (m - 1) p (atoms p s) ∙ sym (everywhere_open (leaves_ok Version wide) m p s h))
      (sizes_all wide (m - 1) p (atoms p s) ∙ sym (everywhere_open (leaves_ok Size wide) m p s h))

  -- what holds where the walk stands before the rest t
  pub record Walked (t : List ℕ) (counts : Counts) (found : Checks) : Type 0 where
    pub fill : filled p t ≡ filled p s
    pub counted : with_atoms counts (atoms p t) ≡ counts_in p s
    pub checked : both_checks found (all_checks wide (m - 1) p (atoms p t)) ≡ all_checks wide (m - 1) p (atoms p s)

  pub walked_start : (counts : Counts) (found : Checks) → counts ≡ nothing_counted → found ≡ all_right → Walked s counts found
  walked_start counts found e f = record { fill = refl; counted = rw e; checked = rw f }

  module _ (t : List ℕ) (counts : Counts) (found : Checks) (w : Walked t counts found) (z : ℕ) (e : z ≡ size_in p t) where
    pub walked_next : (k : ℕ) (counts' : Counts) (found' : Checks) → 8 ≤ z → k ≡ kind_of (take z t) → counts' ≡ with_kind counts k
        → found' ≡ both_checks found (atom_checks wide (m - 1) p (take z t)) → Walked (drop z t) counts' found'
    unfolding with_atoms all_checks
    walked_next k counts' found' h f g i =
        record {
          fill = sym (fill_next p t z e h) ∙ w.fill;
          counted = rw (g, f) (rw (atoms_next p t z e h) at w.counted);
          checked = rw i (both_assoc found _ _ ∙ rw (atoms_next p t z e h) at w.checked);
        }

    left_filled : z < 8 → eqb (length t) 0 ≡ filled p t
    left_filled h = go (length t) refl
      where
        go : (x : ℕ) → x ≡ length t → eqb x 0 ≡ filled p t
        go zero q = sym (filled_end (size_in p) t (omega arith))
        go (suc x) q = ne_eqb (suc x) 0 (λ r. omega arith) ∙ sym (fill_stop p t z e h (omega arith))

    pub walked_end : (here r : Checks) (b : Bool) → z < 8 → 0 < m → b ≡ present_by wide p counts
        → here ≡ record { filled = eqb (length t) 0; present = b; versions = true; sizes = true } → r ≡ both_checks here found → r ≡ tree_checks wide m p s
    unfolding with_atoms all_checks
    walked_end here r b h g f i j =
        let c : counts ≡ counts_in p s = rw (atoms_none p t z e h) at w.counted in
        let v : both_checks found all_right ≡ all_checks wide (m - 1) p (atoms p s) = rw (atoms_none p t z e h) at w.checked in
        let own : here ≡ own_checks wide p s = i ∙ checks_are _ _ (left_filled h ∙ w.fill) (f ∙ ap (present_by wide p) c ∙ present-by wide p s) refl refl in
        j ∙ ap (λ x. both_checks x found) own ∙ ap (both_checks (own_checks wide p s)) (sym (both_unit found) ∙ v) ∙ tree_open g
