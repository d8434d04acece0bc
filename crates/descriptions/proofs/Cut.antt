-- What a walk over the descriptions learns at a place s from the size z there: there are no more, or one and those of the rest.
-- Assumes nothing.
use Prim.Native.Nat.{ℕ, suc, ◌≤◌, max}
use mathlib.Core.Path.{◌≡◌, sym, ap, ◌∙◌}
use mathlib.Core.List.{List}
use lib.ListN.{length, take, drop}
use native.Mathlib.Nat.{pos_of_ne-zero}
use native.Mathlib.Omega.{arith}
use Rattle.atoms.specs.Pieces.{pieces}
use Rattle.atoms.proofs.Pieces.{pieces_none, pieces_next}
use Rattle.descriptions.specs.Descriptions.{greatest}

module _ (size : List ℕ → ℕ) (s : List ℕ) {z : ℕ} (e : z ≡ size s) where
  pub count_none : z ≡ 0 → length (pieces size s) ≡ 0
  count_none h = rw (pieces_none size s (sym e ∙ h))

  pub count_next : (z ≡ 0 → ⊥) → z ≤ length s → length (pieces size s) ≡ suc (length (pieces size (drop z s)))
  count_next h g = rw (pieces_next size s z e (pos_of_ne-zero h) g)

  -- the greatest field so far, when no description is left
  pub greatest_none : (f : List ℕ → ℕ) (a all : ℕ) → z ≡ 0 → max a (greatest f (pieces size s)) ≡ all → a ≡ all
  unfolding greatest
  greatest_none f a all h k = omega (arith, ap (greatest f) (pieces_none size s (sym e ∙ h)))

  -- and after one more
  pub greatest_next : (f : List ℕ → ℕ) (a b all : ℕ) → (z ≡ 0 → ⊥) → z ≤ length s → b ≡ max a (f (take z s))
      → max a (greatest f (pieces size s)) ≡ all → max b (greatest f (pieces size (drop z s))) ≡ all
  unfolding greatest
  greatest_next f a b all h g p k = omega (arith, ap (greatest f) (pieces_next size s z e (pos_of_ne-zero h) g))
