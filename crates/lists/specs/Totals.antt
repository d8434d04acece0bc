-- A total that is kept in 32 bits. This need not be believed: it is between the crates' own functions.
use Rattle.std.specs.Prelude.{ℕ, cond, ltb, Option, Some, None}

-- a sum, or that it is over 4,294,967,295
unfoldable pub total_of : ℕ → Option ℕ
total_of n = cond (ltb 4294967295 n) None (Some n)
