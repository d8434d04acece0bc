-- Quotients rounded up, and the rates made of them.
use Rattle.std.specs.Prelude.{ℕ, ◌+◌, ◌*◌, ◌/◌, ◌%◌, ◌^◌, ◌≤◌, cond, ltb, eqb, Option, Some, None}

-- r is the least number that, times d, reaches n
pub record Least (n d r : ℕ) : Type 0 where
  pub reaches : n ≤ r * d
  pub least : (q : ℕ) → n ≤ q * d → r ≤ q

-- "Quotients are rounded up": the quotient, and one more if anything is left. `proofs/Quotients.antt` shows it the least number that reaches, and
-- the only one
unfoldable pub round_up : ℕ → ℕ → ℕ
round_up n d = cond (eqb (n % d) 0) (n / d) (n / d + 1)

-- "or a result over 4,294,967,295"
unfoldable pub value_of : ℕ → Option ℕ
value_of v = cond (ltb 4294967295 v) None (Some v)

-- n / d, rounded up: "a divisor that is 0 or absent, a numerator of 2^64 or more, or a result over 4,294,967,295" can't be computed
unfoldable pub rate_of : ℕ → ℕ → Option ℕ
rate_of n d = cond (eqb d 0) None (cond (ltb n (2 ^ 64)) (value_of (round_up n d)) None)
