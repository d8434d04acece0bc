-- What a walk over entries that state their own size learns at a place s from the size z there: of the entry at an index, and of a condition
-- on all of them.
-- Assumes nothing.
use Prim.Native.Nat.{ℕ, zero, suc, ◌-◌, ◌≤◌}
use mathlib.Core.Path.{◌≡◌, refl, sym, ◌∙◌}
use mathlib.Core.List.{List, []}
use mathlib.Core.Bool.{Bool, true, false}
use lib.ListN.{length, get_or, take, drop}
use native.Mathlib.Nat.{pos_of_ne-zero}
use native.Mathlib.Omega.{arith}
use Rattle.atoms.specs.Pieces.{pieces}
use Rattle.atoms.specs.Tree.{all}
use Rattle.atoms.proofs.Pieces.{pieces_none, pieces_next}

less_one : (n : ℕ) → suc n - 1 ≡ n
less_one n = omega arith

module _ (size : List ℕ → ℕ) (s : List ℕ) {z : ℕ} (e : z ≡ size s) where
  pub at_none : (i : ℕ) → z ≡ 0 → get_or (pieces size s) i [] ≡ []
  at_none i h = rw (pieces_none size s (sym e ∙ h))

  pub at_here : (i : ℕ) → (z ≡ 0 → ⊥) → z ≤ length s → i ≡ 0 → get_or (pieces size s) i [] ≡ take z s
  at_here i h g q = rw (pieces_next size s z e (pos_of_ne-zero h) g, q)

  pub at_past : (i : ℕ) → (z ≡ 0 → ⊥) → z ≤ length s → (i ≡ 0 → ⊥) → get_or (pieces size s) i [] ≡ get_or (pieces size (drop z s)) (i - 1) []
  at_past zero h g q = absurd (q refl)
  at_past (suc i) h g q = rw (pieces_next size s z e (pos_of_ne-zero h) g, less_one i)

  pub all_none : (f : List ℕ → Bool) → z ≡ 0 → all f (pieces size s) ≡ true
  unfolding all
  all_none f h = rw (pieces_none size s (sym e ∙ h))

  pub all_next : (f : List ℕ → Bool) → (z ≡ 0 → ⊥) → z ≤ length s → f (take z s) ≡ true → all f (pieces size s) ≡ all f (pieces size (drop z s))
  unfolding all
  all_next f h g q = rw (pieces_next size s z e (pos_of_ne-zero h) g, q)

  pub all_stop : (f : List ℕ → Bool) → (z ≡ 0 → ⊥) → z ≤ length s → f (take z s) ≡ false → all f (pieces size s) ≡ false
  unfolding all
  all_stop f h g q = rw (pieces_next size s z e (pos_of_ne-zero h) g, q)
