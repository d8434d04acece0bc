-- A condition that holds everywhere holds of the body itself, and everywhere in the body of each container in it.
-- Assumes nothing.
use Prim.Native.Nat.{ℕ, zero, suc, ◌<◌}
use mathlib.Core.Path.{◌≡◌, refl}
use mathlib.Core.List.{List, [], ◌∷◌}
use mathlib.Core.Bool.{Bool, true, false, cond}
use lib.ListN.{length, get_or}
use lib.Dec.{eqb}
use borrow.Author.Tests.{eqb-true}
use native.Mathlib.Omega.{arith}
use Rattle.lists.proofs.Booleans.{and_left, and_right}
use Rattle.atoms.specs.Kinds.{container}
use Rattle.atoms.specs.Atoms.{kind_of, body_of, atoms, of_kind, child_in, count_in}
use Rattle.atoms.specs.Tree.{all, everywhere}
use Rattle.atoms.proofs.Laws.{below}

module _ (f : List ℕ → Bool) (k : ℕ) where
  -- f holds of x, and x is of kind k
  abbrev pub Good : List ℕ → Type 0
  Good x = (f x ≡ true) × (kind_of x ≡ k)

  good_step : (a : List ℕ) (l : List (List ℕ)) (b : Bool) → eqb (kind_of a) k ≡ b → f a ≡ true
      → ((i : ℕ) → i < length l → Good (get_or l i []))
      → (i : ℕ) → i < length (cond b (a ∷ l) l) → Good (get_or (cond b (a ∷ l) l) i [])
  good_step a l true e h rest zero g = (h, eqb-true (kind_of a) k e)
  good_step a l true e h rest (suc i) g = rest i (omega arith)
  good_step a l false e h rest i g = rest i g

  pub all_kind : (l : List (List ℕ)) → all f l ≡ true → (i : ℕ) → i < length (of_kind k l) → Good (get_or (of_kind k l) i [])
  unfolding all of_kind
  all_kind [] h i g = absurd (omega arith)
  all_kind (a ∷ l) h i g =
      good_step a (of_kind k l) (eqb (kind_of a) k) refl (and_left (f a) _ h) (all_kind l (and_right (f a) _ h)) i g

pub everywhere_here : (check : ℕ → List ℕ → Bool) (n p : ℕ) (s : List ℕ) → everywhere check (suc n) p s ≡ true → check p s ≡ true
unfolding everywhere
everywhere_here check n p s h = and_left (check p s) _ h

pub everywhere_into : (check : ℕ → List ℕ → Bool) (n p k i : ℕ) (s : List ℕ) → everywhere check (suc n) p s ≡ true
    → container p k ≡ true → i < count_in p k s → everywhere check n k (body_of (child_in p k i s)) ≡ true
unfolding everywhere
everywhere_into check n p k i s h c g =
    let r = all_kind (below check n p) k (atoms p s) (and_right (check p s) _ h) i g in
    rw (r.1, c) at r.0
