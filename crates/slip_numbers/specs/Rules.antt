-- Document 01's rule for each number of a slip.
use Rattle.std.specs.Prelude.{Bool, true, cond, ◌&&◌, ℕ, ltb, leb, eqb}

-- the rule of the number n that stands at index i past the form, whose index is 0; prev is the number before it. "ID and scale are not 0,
-- a < b, there are 1 to 1,048,576 pairs"; "b at or below a is b's fault". A number of a pair, and a, may be any
unfoldable pub allowed : ℕ → ℕ → ℕ → Bool
allowed i prev n =
    cond (leb 6 i) true
    (cond (ltb i 3) (ltb 0 n)
    (cond (eqb i 4) (ltb prev n)
    (cond (eqb i 5) (ltb 0 n && leb n 1048576) true)))
