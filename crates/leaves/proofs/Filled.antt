-- What a walk over n pieces learns at a place s from the size z there, for every rule of sizes.
-- Assumes nothing.
use Prim.Native.Nat.{ℕ, zero, suc, ◌-◌, ◌≤◌, ◌<◌}
use mathlib.Core.Path.{◌≡◌, refl, sym, ◌∙◌}
use mathlib.Core.List.{List, [], ◌∷◌}
use mathlib.Core.Bool.{false}
use lib.ListN.{length, drop}
use lib.Dec.{eqb, eqb-zero-suc, eqb-suc-suc}
use native.Mathlib.Omega.{arith}
use native.Mathlib.Nat.{pos_of_ne-zero}
use Rattle.lists.proofs.Booleans.{and_false}
use Rattle.atoms.specs.Pieces.{pieces_after, filled_by}
use Rattle.atoms.proofs.Pieces.{pieces_next, filled_none, filled_next, filled_end}
use Rattle.leaves.specs.Leaves.{filled_with}

sub_suc_one : (n : ℕ) → suc n - 1 ≡ n
sub_suc_one n = omega arith

module _ (size : List ℕ → ℕ) (n : ℕ) (s : List ℕ) (z : ℕ) (e : z ≡ size s) where
  pub with_none : z ≡ 0 → 0 < length s → filled_with size n s ≡ false
  unfolding filled_with
  with_none h g = rw (filled_none size s (sym e ∙ h) g)

  pub with_over : (z ≡ 0 → ⊥) → z ≤ length s → n ≡ 0 → filled_with size n s ≡ false
  unfolding filled_with
  with_over h g f = rw (pieces_next size s z e (pos_of_ne-zero h) g, f, eqb-zero-suc) (and_false (filled_by size s))

pub with_next : (size : List ℕ → ℕ) (n : ℕ) (s : List ℕ) (z : ℕ) → z ≡ size s → (z ≡ 0 → ⊥) → z ≤ length s → (n ≡ 0 → ⊥)
    → filled_with size n s ≡ filled_with size (n - 1) (drop z s)
unfolding filled_with
with_next size zero s z e h g f = absurd (f refl)
with_next size (suc n) s z e h g f =
    let q : 0 < z = pos_of_ne-zero h in
    rw (sub_suc_one n, filled_next size s z e q g, pieces_next size s z e q g, eqb-suc-suc)

pub with_end : (size : List ℕ → ℕ) (n : ℕ) (s : List ℕ) → length s ≤ 0 → filled_with size n s ≡ eqb n 0
unfolding filled_with pieces_after
with_end size n [] h = rw (filled_end size ([]) h)
with_end size n (x ∷ s) h = absurd (omega arith)
