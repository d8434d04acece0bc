-- `signs::absolute` is the absolute value: a number that is not negative is cast as it is, and another after it is taken from -1.
-- Assumes nothing.
use borrow.Author.Tests.{leb-false, le-ltb}
use Prim.Native.Nat.{suc, ◌+◌, ◌<◌}
use mathlib.Core.Path.{◌≡◌, ap}
use mathlib.Core.Bool.{false}
use native.Mathlib.Omega.{arith}
use lib.IntN.{ℤ, pos, negsuc, nat_abs, ◌-ℤ◌}
use lib.Signed.{mag, le_z}
use mir.Syntax.{w64}
use mir.Val.{to_z, of_z}
use Rattle.bigendian.proofs.Halves.{kept}
use Rattle.edits.proofs.Signs.{cast_at}
use Rattle.signs.proofs.absolute.Goals as goal

-- what is left when a negative number is taken from -1
away : (z : ℤ) → le_z (pos 0) z ≡ false → negsuc 0 -ℤ z ≡ pos (mag z)
away (pos m) e = absurd (omega (arith, leb-false 0 m e))
away (negsuc k) e = rw (le-ltb (suc k) 1 (omega arith)) (ap pos (omega arith))

-- the same of a number that is read through its bits
away_at : (z : ℤ) → mag z < 9223372036854775808 → le_z (pos 0) (to_z w64 (of_z w64 z)) ≡ false → negsuc 0 -ℤ to_z w64 (of_z w64 z) ≡ pos (mag z)
away_at z h e = rw (kept z h) (away z (rw (kept z h) at e))

-- a negative number's absolute value is one above what `mag` counts
above : (z : ℤ) → le_z (pos 0) z ≡ false → mag z + 1 ≡ nat_abs z
above (pos m) e = absurd (omega (arith, leb-false 0 m e))
above (negsuc k) e = omega arith

pub overflow_cast-result : goal.overflow_cast-result
overflow_cast-result c = cast_at c.args.n c.ranges.n.sfits c.if-n-ge0.true

pub overflow_sub-result : goal.overflow_sub-result
overflow_sub-result c = rw (away_at c.args.n c.ranges.n.sfits c.if-n-ge0.false) (record { sfits = c.ranges.n.sfits })

pub overflow_cast-result-2 : goal.overflow_cast-result-2
overflow_cast-result-2 c =
    let n = c.args.n in
    rw (away_at n c.ranges.n.sfits c.if-n-ge0.false, kept (pos (mag n)) c.ranges.n.sfits) (tt, record { fits = omega (arith, c.ranges.n.sfits) })

pub overflow_add-result : goal.overflow_add-result
overflow_add-result c =
    let n = c.args.n in
    rw (away_at n c.ranges.n.sfits c.if-n-ge0.false, kept (pos (mag n)) c.ranges.n.sfits) (record { fits = omega (arith, c.ranges.n.sfits) })

pub returns : goal.returns
returns c =
    let n = c.args.n in
    rw (away_at n c.ranges.n.sfits c.if-n-ge0.false, kept (pos (mag n)) c.ranges.n.sfits)
    (above n (rw (kept n c.ranges.n.sfits) at c.if-n-ge0.false))
