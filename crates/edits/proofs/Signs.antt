-- A signed media time taken apart by its sign, as the code tests it: through its bits.
-- Assumes nothing.
use Prim.Native.Nat.{ℕ, zero, suc, ◌<◌}
use mathlib.Core.Path.{◌≡◌, refl, sym, ap}
use mathlib.Core.Bool.{true, false}
use native.Mathlib.Omega.{arith}
use lib.IntN.{ℤ, pos, negsuc, nat_abs}
use lib.Signed.{mag, le_z, non_neg}
use lib.Dec.{T}
use mir.Syntax.{w64}
use mir.Val.{Fits, to_z, of_z}
use borrow.Author.Tests.{leb-false}
use Rattle.bigendian.proofs.Halves.{kept}
use Rattle.edits.specs.declared.EditStart.TheVariants.{From, Empty, Wrong}
use Rattle.edits.specs.Edits.{start_of}

from_z : (z : ℤ) → le_z (pos 0) z ≡ true → From (nat_abs z) ≡ start_of z
from_z (pos m) e = refl
from_z (negsuc k) e = let x : ◌≡◌ {A = ℕ} 0 1 = cc in absurd (omega arith)

cast_z : (z : ℤ) → mag z < 9223372036854775808 → le_z (pos 0) z ≡ true → T (non_neg z) × Fits w64 (nat_abs z)
cast_z (pos m) h e = (tt, record { fits = omega arith })
cast_z (negsuc k) h e = let x : ◌≡◌ {A = ℕ} 0 1 = cc in absurd (omega arith)

wrong_z : (z : ℤ) → le_z (pos 0) z ≡ false → (of_z w64 z ≡ 18446744073709551615 → ⊥) → Wrong ≡ start_of z
wrong_z (pos m) e f = absurd (omega (arith, leb-false 0 m e))
wrong_z (negsuc zero) e f = absurd (f refl)
wrong_z (negsuc (suc k)) e f = refl

module _ (z : ℤ) (h : mag z < 9223372036854775808) where
  pub from_at : le_z (pos 0) (to_z w64 (of_z w64 z)) ≡ true → From (nat_abs (to_z w64 (of_z w64 z))) ≡ start_of z
  from_at e = rw (kept z h) (from_z z (rw (kept z h) at e))

  pub cast_at : le_z (pos 0) (to_z w64 (of_z w64 z)) ≡ true → T (non_neg (to_z w64 (of_z w64 z))) × Fits w64 (nat_abs (to_z w64 (of_z w64 z)))
  cast_at e = rw (kept z h) (cast_z z h (rw (kept z h) at e))

  pub wrong_at : le_z (pos 0) (to_z w64 (of_z w64 z)) ≡ false → (of_z w64 z ≡ 18446744073709551615 → ⊥) → Wrong ≡ start_of z
  wrong_at e f = wrong_z z (rw (kept z h) at e) f

pub empty_at : (z : ℤ) → mag z < 9223372036854775808 → of_z w64 z ≡ 18446744073709551615 → Empty ≡ start_of z
empty_at (pos m) h e = absurd (omega arith)
empty_at (negsuc zero) h e = refl
empty_at (negsuc (suc k)) h e = absurd (omega arith)

-- a place of the media is the size of its media time
pub from_mag : (z : ℤ) (m : ℕ) → From m ≡ start_of z → m ≡ mag z
from_mag (pos n) m e = cc
from_mag (negsuc zero) m e = let x : ◌≡◌ {A = ℕ} 0 1 = cc in absurd (omega arith)
from_mag (negsuc (suc k)) m e = let x : ◌≡◌ {A = ℕ} 0 1 = cc in absurd (omega arith)

pub from_pos : (z : ℤ) (m : ℕ) → From m ≡ start_of z → z ≡ pos m
from_pos (pos n) m e = let x : m ≡ n = cc in sym (ap pos x)
from_pos (negsuc zero) m e = let x : ◌≡◌ {A = ℕ} 0 1 = cc in absurd (omega arith)
from_pos (negsuc (suc k)) m e = let x : ◌≡◌ {A = ℕ} 0 1 = cc in absurd (omega arith)
