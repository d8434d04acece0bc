-- Laws of the atoms of a body and of the tree, in the form in which a walk knows them at a place: from the size there, and from what was
-- found of the atom.
-- Assumes nothing.
use Prim.Native.Nat.{ℕ, zero, suc, ◌-◌, ◌≤◌, ◌<◌}
use mathlib.Core.Path.{◌≡◌, refl, sym, ◌∙◌}
use mathlib.Core.List.{List, [], ◌∷◌}
use mathlib.Core.Bool.{Bool, true, false, cond, ◌&&◌}
use lib.ListN.{length, take, drop}
use lib.Dec.{ltb, leb, eqb}
use borrow.Author.Tests.{leb-true, ltb-false, eq-eqb, ne_eqb}
use native.Mathlib.Omega.{arith}
use Rattle.bigendian.specs.BigEndian.{u32_at, u64_at}
use Rattle.bigendian.proofs.Laws.{be_at_take}
use Rattle.lists.proofs.Booleans.{and_left, and_right}
use Rattle.atoms.specs.Kinds.{file, container}
use Rattle.atoms.specs.Pieces.{fitting}
use Rattle.atoms.specs.Atoms.{kind_of, body_of, size_inside, size_top, size_in, atoms, filled, of_kind, child_in}
use Rattle.atoms.specs.Tree.{all, everywhere}
use Rattle.atoms.proofs.Pieces.{pieces_none, pieces_next, filled_none, filled_next}

-- ---- sizes

-- z is the size of an atom at the beginning of s, or 0
Sized : List ℕ → ℕ → Type 0
Sized s z = (z ≤ length s) × (z < 8 → z ≡ 0)

sized_zero : (s : List ℕ) → Sized s 0
unfolding Sized
sized_zero s = (omega arith, λ h. refl)

sized_cond : (b : Bool) (s : List ℕ) (x y : ℕ) → (b ≡ true → Sized s x) → (b ≡ false → Sized s y) → Sized s (cond b x y)
sized_cond true s x y f g = f refl
sized_cond false s x y f g = g refl

sized_fitting : (h z : ℕ) (s : List ℕ) → 8 ≤ h → Sized s (fitting h z s)
unfolding fitting Sized
sized_fitting h z s g =
    sized_cond (leb h z && leb z (length s)) s z 0
    (λ e. let a = leb-true h z (and_left _ _ e) in
    let b = leb-true z (length s) (and_right (leb h z) _ e) in
    (b, λ l. omega arith))
    (λ e. sized_zero s)

sized_whole : (s : List ℕ) → ltb (length s) 8 ≡ false → Sized s (length s)
unfolding Sized
sized_whole s e = (omega arith, λ h. omega (arith, ltb-false (length s) 8 e))

sized_inside : (s : List ℕ) → Sized s (size_inside s)
unfolding size_inside
sized_inside s = sized_cond (ltb (length s) 8) s _ _ (λ e. sized_zero s) (λ e. sized_fitting 8 (u32_at s 0) s (omega arith))

sized_top : (s : List ℕ) → Sized s (size_top s)
unfolding size_top
sized_top s =
    sized_cond (ltb (length s) 8) s _ _ (λ e. sized_zero s)
    (λ e. sized_cond (eqb (u32_at s 0) 0) s _ _ (λ f. sized_whole s e)
    (λ f. sized_cond (eqb (u32_at s 0) 1) s _ _
    (λ g. sized_cond (ltb (length s) 16) s _ _ (λ i. sized_zero s) (λ i. sized_fitting 16 (u64_at s 8) s (omega arith)))
    (λ g. sized_fitting 8 (u32_at s 0) s (omega arith))))

sized : (p : ℕ) (s : List ℕ) → Sized s (size_in p s)
unfolding size_in
sized p s = sized_cond (eqb p file) s _ _ (λ e. sized_top s) (λ e. sized_inside s)

pub size_le : (p : ℕ) (s : List ℕ) → size_in p s ≤ length s
unfolding Sized
size_le p s = (sized p s).0

pub size_none : (p : ℕ) (s : List ℕ) → size_in p s < 8 → size_in p s ≡ 0
unfolding Sized
size_none p s = (sized p s).1

-- ---- the tree

sub_suc_one : (n : ℕ) → suc n - 1 ≡ n
sub_suc_one n = omega arith

-- what is asked of an atom a in the parent p, with n levels for what is below
abbrev pub below : (ℕ → List ℕ → Bool) → ℕ → ℕ → List ℕ → Bool
below check n p a = cond (container p (kind_of a)) (everywhere check n (kind_of a) (body_of a)) true

pub everywhere_open : (check : ℕ → List ℕ → Bool) (n p : ℕ) (s : List ℕ) → 0 < n
    → everywhere check n p s ≡ (check p s && all (below check (n - 1) p) (atoms p s))
unfolding everywhere
everywhere_open check zero p s h = absurd (omega arith)
everywhere_open check (suc n) p s h = rw (sub_suc_one n)

pub everywhere_stop : (check : ℕ → List ℕ → Bool) (n p : ℕ) (s : List ℕ) → check p s ≡ false → everywhere check n p s ≡ false
unfolding everywhere
everywhere_stop check zero p s h = refl
everywhere_stop check (suc n) p s h = rw h

pub everywhere_all : (check : ℕ → List ℕ → Bool) (n p : ℕ) (s : List ℕ) → 0 < n → check p s ≡ true
    → all (below check (n - 1) p) (atoms p s) ≡ everywhere check n p s
everywhere_all check n p s g h = sym (everywhere_open check n p s g ∙ rw h)

-- what a walk learns of an atom that it has descended into, and of a leaf
pub below_container : (check : ℕ → List ℕ → Bool) (n p k : ℕ) (a s : List ℕ) (q b : Bool) → k ≡ kind_of a → q ≡ container p k → q ≡ true → s ≡ body_of a
    → b ≡ everywhere check n k s → below check n p a ≡ b
below_container check n p k a s q b e f g h i = rw (← e, ← f, g, ← h) (sym i)

pub below_leaf : (check : ℕ → List ℕ → Bool) (n p k : ℕ) (a : List ℕ) (q : Bool) → k ≡ kind_of a → q ≡ container p k → q ≡ false → below check n p a ≡ true
below_leaf check n p k a q e f g = rw (← e, ← f, g)

-- ---- what a walk learns at a place s from the size z there

module _ (p : ℕ) (s : List ℕ) (z : ℕ) (e : z ≡ size_in p s) where
  within : z ≤ length s
  within = omega (arith, size_le p s)

  none : z < 8 → size_in p s ≡ 0
  none h = size_none p s (rw e at h)

  pub atoms_none : z < 8 → atoms p s ≡ []
  atoms_none h = pieces_none (size_in p) s (none h)

  pub atoms_next : 8 ≤ z → atoms p s ≡ take z s ∷ atoms p (drop z s)
  atoms_next h = pieces_next (size_in p) s z e (omega arith) within

  pub kinds_none : (k : ℕ) → z < 8 → of_kind k (atoms p s) ≡ []
  unfolding of_kind
  kinds_none k h = rw (pieces_none (size_in p) s (none h))

  pub kinds_here : (k : ℕ) → 8 ≤ z → u32_at s 4 ≡ k → of_kind k (atoms p s) ≡ take z s ∷ of_kind k (atoms p (drop z s))
  unfolding of_kind
  kinds_here k h f = rw (atoms_next h, be_at_take 4 z s 4 h, eq-eqb (u32_at s 4) k f)

  pub kinds_next : (k : ℕ) → 8 ≤ z → (u32_at s 4 ≡ k → ⊥) → of_kind k (atoms p s) ≡ of_kind k (atoms p (drop z s))
  unfolding of_kind
  kinds_next k h f = rw (atoms_next h, be_at_take 4 z s 4 h, ne_eqb (u32_at s 4) k f)

  pub child_none : (k i : ℕ) → z < 8 → child_in p k i s ≡ []
  child_none k i h = rw (kinds_none k h)

  pub child_here : (k i : ℕ) → 8 ≤ z → u32_at s 4 ≡ k → i ≡ 0 → child_in p k i s ≡ take z s
  child_here k i h f g = rw (kinds_here k h f, g)

  pub child_past : (k i : ℕ) → 8 ≤ z → u32_at s 4 ≡ k → (i ≡ 0 → ⊥) → child_in p k i s ≡ child_in p k (i - 1) (drop z s)
  child_past k zero h f g = absurd (g refl)
  child_past k (suc i) h f g = rw (kinds_here k h f, sub_suc_one i)

  pub child_next : (k i : ℕ) → 8 ≤ z → (u32_at s 4 ≡ k → ⊥) → child_in p k i s ≡ child_in p k i (drop z s)
  child_next k i h f = rw (kinds_next k h f)

  pub fill_stop : z < 8 → 0 < length s → filled p s ≡ false
  fill_stop h g = filled_none (size_in p) s (none h) g

  pub fill_next : 8 ≤ z → filled p s ≡ filled p (drop z s)
  fill_next h = filled_next (size_in p) s z e (omega arith) within

  pub all_none : (f : List ℕ → Bool) → z < 8 → all f (atoms p s) ≡ true
  unfolding all
  all_none f h = rw (pieces_none (size_in p) s (none h))

  pub all_next : (f : List ℕ → Bool) → 8 ≤ z → f (take z s) ≡ true → all f (atoms p s) ≡ all f (atoms p (drop z s))
  unfolding all
  all_next f h g = rw (atoms_next h, g)

  pub all_stop : (f : List ℕ → Bool) → 8 ≤ z → f (take z s) ≡ false → all f (atoms p s) ≡ false
  unfolding all
  all_stop f h g = rw (atoms_next h, g)
