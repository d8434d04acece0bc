-- A search by halving, as the code makes it: of tests that pass up to some index and fail from there on, the last that passes. Of any
-- other tests it is what halving comes to.
use Rattle.std.specs.Prelude.{ℕ, zero, suc, ◌+◌, ◌-◌, ◌/◌, Bool, cond, ltb}

-- from the index low up to, not including, high, in at most k turns
abbrev pub halving : (ℕ → Bool) → ℕ → ℕ → ℕ → ℕ
halving p zero low high = low
halving p (suc k) low high =
    cond (ltb 1 (high - low))
    (cond (p (low + (high - low) / 2)) (halving p k (low + (high - low) / 2) high) (halving p k low (low + (high - low) / 2)))
    low

-- of n tests
unfoldable pub last_passing : (ℕ → Bool) → ℕ → ℕ
last_passing p n = halving p n 0 n
