-- `windows::is_no_higher` meets its contract: of numbers below 2 ^ 32 the products fit, and their comparison is the answer.
-- Assumes nothing.
use borrow.Author.Tests.{lt-ltb, le-ltb}
use Prim.Native.Nat.{ℕ, ◌*◌, ◌≤◌, ◌<◌}
use native.Mathlib.Omega.{arith}
use native.Mathlib.Nat.{mul-le-mul}
use Rattle.windows.specs.Windows.{no_higher}
use Rattle.windows.proofs.is_no_higher.Goals as goal

small : (a b : ℕ) → a ≤ 4294967295 → b < 4294967296 → a * b < 18446744073709551616
small a b h k =
    let l : b ≤ 4294967295 = omega arith in
    let m : a * b ≤ 4294967295 * 4294967295 = mul-le-mul h l in
    omega arith

pub returns-then-bytes-gt4294967295 : goal.returns-then-bytes-gt4294967295
unfolding no_higher
returns-then-bytes-gt4294967295 c = rw (lt-ltb 4294967295 _ c.if-bytes-gt4294967295.true)

pub returns-then-other-gt4294967295 : goal.returns-then-other-gt4294967295
unfolding no_higher
returns-then-other-gt4294967295 c = rw (le-ltb 4294967295 _ c.if-bytes-gt4294967295.false, lt-ltb 4294967295 _ c.if-other-gt4294967295.true)

pub overflow_mul-result : goal.overflow_mul-result
overflow_mul-result c = record { fits = small _ _ c.if-bytes-gt4294967295.false c.requires.1 }

pub overflow_mul-result-2 : goal.overflow_mul-result-2
overflow_mul-result-2 c = record { fits = small _ _ c.if-other-gt4294967295.false c.requires.0 }

pub returns : goal.returns
unfolding no_higher
returns c = rw (le-ltb 4294967295 _ c.if-bytes-gt4294967295.false, le-ltb 4294967295 _ c.if-other-gt4294967295.false)
