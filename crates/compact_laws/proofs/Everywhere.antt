-- A condition that is kept by every body is kept everywhere; atoms fill every body.
-- Assumes nothing.
use Prim.Native.Nat.{ℕ, zero, suc, ◌<◌}
use mathlib.Core.Path.{◌≡◌, refl, sym, ap, ◌∙◌}
use mathlib.Core.List.{List, [], ◌∷◌, map}
use mathlib.Core.Bool.{Bool, true, false, cond, ◌&&◌}
use native.Mathlib.Omega.{arith}
use lib.ListN.{length, length-append, length-drop}
use lib.Dec.{eqb}
use borrow.Author.Tests.{eqb-true, eq-eqb}
use Rattle.lists.proofs.Booleans.{and_left, and_right}
use Rattle.atoms.specs.Kinds.{moov, trak, edts, mdia, minf, stbl, dinf, container}
use Rattle.atoms.specs.Pieces.{total, filled_by}
use Rattle.atoms.specs.Atoms.{kind_of, header_of, body_of, atoms, filled}
use Rattle.atoms.specs.Tree.{all, everywhere}
use Rattle.atoms.proofs.Laws.{below}
use Rattle.leaves.specs.Leaves.{Size}
use Rattle.leaves.specs.Leaves.{leaves_ok}
use Rattle.byte_writing.specs.Bytes.{joined}
use Rattle.compact_tables.specs.Tables.{compact_tables}
use Rattle.compact_tree.specs.Tree.{compact_body}
use Rattle.compact_tree.proofs.Putting.{compact_atom}
use Rattle.compact_laws.proofs.Rewritten.{Each}
use Rattle.compact_laws.proofs.Tables.{tables_joined}
use Rattle.compact_laws.proofs.Bodies.{Headed, Sound, atoms_headed, body_atoms, stbl_atoms, tables_tight}
use Rattle.compact_laws.proofs.Children.{kind_kept, body_kept}

-- ---- nothing in an stbl is a container

same : (b : Bool) → cond b false false ≡ false
same true = refl
same false = refl

pub no_container : (k : ℕ) → container stbl k ≡ false
unfolding container
no_container k = rw (same (eqb k dinf), same (eqb k stbl), same (eqb k minf), same (eqb k mdia), same (eqb k edts), same (eqb k trak)) (same (eqb k moov))

pub shorter : (a : List ℕ) → length a < 4294967296 → length (body_of a) < 4294967296
unfolding body_of
shorter a h = omega (arith, length-drop (header_of a) a)

pub both : (a b : Bool) → a ≡ true → b ≡ true → (a && b) ≡ true
both a b e f = rw (e, f)

module _ (wide : Bool) (check : ℕ → List ℕ → Bool)
    (kept : (n p : ℕ) (s : List ℕ) → Sound wide (suc n) p s → check p s ≡ true → check p (compact_body (suc n) p s) ≡ true) where
  abbrev At : ℕ → Type 0
  At n = (p : ℕ) (s : List ℕ) → Sound wide n p s → everywhere check n p s ≡ true → everywhere check n p (compact_body n p s) ≡ true

  below_kept : (n p : ℕ) → At n → (a : List ℕ) → Headed a → below filled n p a ≡ true → below (leaves_ok Size wide) n p a ≡ true → below check n p a ≡ true → below check n p (compact_atom n p a) ≡ true
  below_kept n p ih a h f z k = rw (kind_kept n p a h.0) (go (container p (kind_of a)) refl f z k)
    where
      go : (b : Bool) → container p (kind_of a) ≡ b → cond b (everywhere filled n (kind_of a) (body_of a)) true ≡ true → cond b (everywhere (leaves_ok Size wide) n (kind_of a) (body_of a)) true ≡ true
          → cond b (everywhere check n (kind_of a) (body_of a)) true ≡ true → cond b (everywhere check n (kind_of a) (body_of (compact_atom n p a))) true ≡ true
      go true e f z k = rw (body_kept n p a h.0 e) (ih (kind_of a) (body_of a) (record { fills = f; sizes = z; low = shorter a h.1 }) k)
      go false e f z k = refl

  all_below : (n p : ℕ) → At n → (l : List (List ℕ)) → Each Headed l → all (below filled n p) l ≡ true → all (below (leaves_ok Size wide) n p) l ≡ true → all (below check n p) l ≡ true
      → all (below check n p) (map (compact_atom n p) l) ≡ true
  unfolding all
  all_below n p ih [] h f z k = refl
  all_below n p ih (a ∷ l) h f z k =
      both _ _ (below_kept n p ih a h.0 (and_left _ _ f) (and_left _ _ z) (and_left _ _ k))
      (all_below n p ih l h.1 (and_right (below filled n p a) _ f) (and_right (below (leaves_ok Size wide) n p a) _ z) (and_right (below check n p a) _ k))

  all_leaves : (n : ℕ) (l : List (List ℕ)) → all (below check n stbl) l ≡ true
  unfolding all
  all_leaves n [] = refl
  all_leaves n (a ∷ l) = rw (no_container (kind_of a)) (all_leaves n l)

  at_next : (n : ℕ) → At n → At (suc n)
  unfolding everywhere
  at_next n ih p s d k = go (eqb p stbl) refl
    where
      go : (b : Bool) → eqb p stbl ≡ b → (check p (compact_body (suc n) p s) && all (below check n p) (atoms p (compact_body (suc n) p s))) ≡ true
      go true e = both _ _ (kept n p s d (and_left _ _ k)) (rw (eqb-true p stbl e) (all_leaves n _))
      go false e =
          both _ _ (kept n p s d (and_left _ _ k))
          (ap (all (below check n p)) (body_atoms wide n p s d e)
          ∙ all_below n p ih (atoms p s) (atoms_headed p s d.low) (and_right (filled p s) _ d.fills) (and_right (leaves_ok Size wide p s) _ d.sizes) (and_right (check p s) _ k))

  pub everywhere_kept : (n : ℕ) → At n
  unfolding everywhere
  everywhere_kept zero p s d k = k
  everywhere_kept (suc n) p s d k = at_next n (everywhere_kept n) p s d k

-- ---- rows 2: atoms fill every body

total_joined : (l : List (List ℕ)) → total l ≡ length (joined l)
unfolding total joined
total_joined [] = refl
total_joined (a ∷ l) = omega (arith, total_joined l, length-append a (joined l))

filled_from : (p : ℕ) (x : List ℕ) → joined (atoms p x) ≡ x → filled p x ≡ true
unfolding filled_by
filled_from p x e = eq-eqb _ _ (total_joined (atoms p x) ∙ ap length e)

opened : (n : ℕ) (s : List ℕ) → compact_body (suc n) stbl s ≡ compact_tables s
unfolding compact_body
opened n s = refl

pub opened_other : (n p : ℕ) (s : List ℕ) → eqb p stbl ≡ false → compact_body (suc n) p s ≡ joined (map (compact_atom n p) (atoms p s))
unfolding compact_body
opened_other n p s e = rw e

filled_kept : (wide : Bool) (n p : ℕ) (s : List ℕ) → Sound wide (suc n) p s → filled p s ≡ true → filled p (compact_body (suc n) p s) ≡ true
filled_kept wide n p s d f = go (eqb p stbl) refl
  where
    go : (b : Bool) → eqb p stbl ≡ b → filled p (compact_body (suc n) p s) ≡ true
    go true e =
        let q = eqb-true p stbl e in
        let d' : Sound wide (suc n) stbl s = rw q at d in
        rw q (filled_from stbl (compact_body (suc n) stbl s) (ap joined (stbl_atoms wide n s d') ∙ sym (opened n s ∙ tables_joined s (rw q at f) (tables_tight wide n s d') d'.low)))
    go false e = filled_from p (compact_body (suc n) p s) (ap joined (body_atoms wide n p s d e) ∙ sym (opened_other n p s e))

pub fills_kept : (wide : Bool) (n p : ℕ) (s : List ℕ) → Sound wide n p s → everywhere filled n p (compact_body n p s) ≡ true
fills_kept wide n p s d = everywhere_kept wide filled (filled_kept wide) n p s d d.fills
