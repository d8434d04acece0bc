-- The machine's sum of a decode time and a signed offset is their sum: it lies no further from 0 than its parts together.
-- Assumes nothing.
use Prim.Native.Nat.{ℕ, suc, ◌+◌, ◌≤◌, ◌<◌}
use mathlib.Core.Path.{◌≡◌}
use native.Mathlib.Omega.{arith}
use native.Mathlib.Decide.{dec_lt}
use lib.IntN.{ℤ, pos, negsuc, ◌+ℤ◌}
use lib.Signed.{mag}
use borrow.Author.Tests.{lt-ltb, le-ltb}
use mir.Syntax.{w32, w64}
use mir.Val.{SFits, to_z, of_z}
use mir.ValLaws.{to_z_pos, to_z-of_z}
use Rattle.bigendian.proofs.Halves.{kept}

pub mag_add : (a : ℕ) (z : ℤ) → mag (pos a +ℤ z) ≤ a + mag z
mag_add a (pos b) = omega arith
mag_add a (negsuc b) = elim (dec_lt a (suc b)) [
  | yes l ↦ rw (lt-ltb a (suc b) l) (omega arith)
  | no l ↦ let q : suc b ≤ a = omega arith in rw (le-ltb a (suc b) q) (omega arith)
]

-- a number within 32 bits is what its bits stand for
pub kept_narrow : (z : ℤ) → mag z < 2147483648 → to_z w32 (of_z w32 z) ≡ z
kept_narrow z h = to_z-of_z w32 z (record { sfits = h })

pub narrow_fits : (z : ℤ) → mag z < 2147483648 → SFits w64 (to_z w32 (of_z w32 z))
narrow_fits z h = rw (kept_narrow z h) (record { sfits = omega arith })

-- an offset of 64 bits that lies within 32 is narrowed
pub narrowed : (z : ℤ) → mag z < 2147483648 → SFits w32 (to_z w64 (of_z w64 z))
narrowed z h = rw (kept z (omega arith)) (record { sfits = h })

pub passed_narrow : (z : ℤ) → mag z < 2147483648 → to_z w32 (of_z w32 (to_z w64 (of_z w64 z))) ≡ z
passed_narrow z h = rw (kept z (omega arith)) (kept_narrow z h)

module _ (a : ℕ) (z : ℤ) (h : a < 4294967296) (k : mag z < 2147483648) where
  operands : to_z w64 a +ℤ to_z w64 (of_z w64 (to_z w32 (of_z w32 z))) ≡ pos a +ℤ z
  operands = rw (to_z_pos w64 a (omega arith), kept_narrow z k, kept z (omega arith))

  pub sum_fits : SFits w64 (to_z w64 a +ℤ to_z w64 (of_z w64 (to_z w32 (of_z w32 z))))
  sum_fits = rw operands (record { sfits = omega (arith, mag_add a z) })

  pub sum_is : to_z w64 (of_z w64 (to_z w64 a +ℤ to_z w64 (of_z w64 (to_z w32 (of_z w32 z))))) ≡ pos a +ℤ z
  sum_is = rw operands (kept (pos a +ℤ z) (omega (arith, mag_add a z)))
