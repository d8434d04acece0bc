-- `peaks::most_bytes` meets its contract: a quotient times its divisor is at most the numerator.
-- Assumes nothing.
use Prim.Native.Nat.{ℕ, ◌*◌, ◌≤◌, ◌<◌}
use native.Mathlib.Omega.{arith}
use native.Mathlib.Nat.{mul-le-mul, div-add-mod'}
use Rattle.peaks.proofs.most_bytes.Goals as goal

small : (a b : ℕ) → a ≤ 4294967295 → b < 4294967296 → a * b < 18446744073709551616
small a b h k =
    let l : b ≤ 4294967295 = omega arith in
    let m : a * b ≤ 4294967295 * 4294967295 = mul-le-mul h l in
    omega arith

pub overflow_mul-result : goal.overflow_mul-result
overflow_mul-result c = record { fits = small _ _ c.if-best-gt4294967295.false c.requires.1 }

pub returns : goal.returns
returns c = let a = c.args in omega (arith, div-add-mod' (a.best.bytes * a.span) a.best.span)
