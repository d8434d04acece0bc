-- Two's complement of 32 bits: the number of the bits below 2 ^ 31 and from there on, and its range.
-- Assumes nothing.
use Prim.Native.Nat.{ℕ, suc, ◌-◌, ◌≤◌, ◌<◌}
use mathlib.Core.Path.{◌≡◌, refl, sym}
use native.Mathlib.Omega.{arith}
use native.Mathlib.Decide.{dec_lt}
use lib.IntN.{ℤ, pos, negsuc}
use lib.Signed.{mag}
use mir.Syntax.{w32, w64}
use mir.Val.{to_z, of_z}
use mir.ValLaws.{to_z_pos, to_z-of_z}
use borrow.Author.Tests.{lt-ltb, le-ltb}
use Rattle.bigendian.specs.BigEndian.{signed32}

pub signed_low : (n : ℕ) → n < 2147483648 → signed32 n ≡ pos n
unfolding signed32
signed_low n h = rw (lt-ltb n 2147483648 h)

pub signed_high : (n : ℕ) → 2147483648 ≤ n → signed32 n ≡ negsuc (4294967295 - n)
unfolding signed32
signed_high n h = rw (le-ltb n 2147483648 h)

pub signed_mag : (n : ℕ) → n < 4294967296 → mag (signed32 n) < 2147483648
signed_mag n h = elim (dec_lt n 2147483648) [
  | yes l ↦ rw (signed_low n l) l
  | no l ↦ let q : 2147483648 ≤ n = omega arith in rw (signed_high n q) (omega arith)
]

-- what the bits stand for is the number in two's complement
pub as_signed : (n : ℕ) → n < 4294967296 → to_z w32 n ≡ signed32 n
as_signed n h = elim (dec_lt n 2147483648) [
  | yes l ↦ rw (to_z_pos w32 n l) (sym (signed_low n l))
  | no l ↦
      let q : 2147483648 ≤ n = omega arith in
      let e : 4294967296 - suc n ≡ 4294967295 - n = omega arith in
      rw (signed_high n q, le-ltb n 2147483648 q, e) refl
]

-- a number within 64 bits is what its bits stand for: the result of a signed operation, and of a call, is read through its bits
pub kept : (z : ℤ) → mag z < 9223372036854775808 → to_z w64 (of_z w64 z) ≡ z
kept z h = to_z-of_z w64 z (record { sfits = h })

-- the same of 32 bits
pub kept32 : (z : ℤ) → mag z < 2147483648 → to_z w32 (of_z w32 z) ≡ z
kept32 z h = to_z-of_z w32 z (record { sfits = h })
