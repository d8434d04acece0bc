-- What a total says of the sum, and the sum of the total.
-- Assumes nothing.
use Rattle.std.specs.Prelude.{Some, None}
use Prim.Native.Nat.{ℕ, ◌≤◌, ◌<◌}
use mathlib.Core.Path.{◌≡◌}
use native.Mathlib.Decide.{dec_lt}
use native.Mathlib.Omega.{arith}
use borrow.Author.Tests.{lt-ltb, le-ltb}
use Rattle.lists.specs.Totals.{total_of}

pub total_over : (n : ℕ) → 4294967295 < n → total_of n ≡ None
unfolding total_of
total_over n h = rw (lt-ltb 4294967295 n h)

pub total_sum : (n : ℕ) → n ≤ 4294967295 → total_of n ≡ Some n
unfolding total_of
total_sum n h = rw (le-ltb 4294967295 n h)

pub total_known : (n m : ℕ) → total_of n ≡ Some m → (n ≡ m) × (n ≤ 4294967295)
total_known n m e = elim (dec_lt 4294967295 n) [
  | yes l ↦ let o = total_over n l in let z : ◌≡◌ {A = ℕ} 0 1 = cc in absurd (omega arith)
  | no l ↦ let o = total_sum n (omega arith) in (cc, omega arith)
]

pub over_known : (n : ℕ) → total_of n ≡ None → 4294967295 < n
over_known n e = elim (dec_lt 4294967295 n) [
  | yes l ↦ l
  | no l ↦ let o = total_sum n (omega arith) in let z : ◌≡◌ {A = ℕ} 0 1 = cc in absurd (omega arith)
]
