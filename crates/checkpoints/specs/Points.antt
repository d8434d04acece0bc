-- Checkpoints of a list of runs: before each 64th of them, what the runs so far come to.
use Rattle.std.specs.Prelude.{◌≡◌, ℕ, zero, suc, ◌+◌, ◌*◌, ◌%◌, ◌^◌, ◌<◌, List, [], ◌∷◌, ◌++◌, length, take, nat_le, slice_index}
use Rattle.lists.specs.Halving.{last_passing}
use Rattle.lists.specs.Lists.{sum, Run, expand}
use Rattle.checkpoints.specs.declared.Sums.{Sums}

-- nothing so far
abbrev pub no_sums : Sums
no_sums = record { count = 0; total = 0 }

-- with a run, and with some: its count, and its value as often as its count says, each sum modulo 2 ^ 64
abbrev pub with_run : Run → Sums → Sums
with_run r a = record { count = (a.count + r.count) % 2 ^ 64; total = (a.total + r.count * r.value) % 2 ^ 64 }

abbrev pub with_runs : List Run → Sums → Sums
with_runs [] a = a
with_runs (r ∷ rs) a = with_runs rs (with_run r a)

-- of the first e runs
unfoldable pub sums_before : List Run → ℕ → Sums
sums_before rs e = with_runs (take e rs) no_sums

-- the numbers of so many checkpoints, two for each: before runs 0, 64, 128 and so on; past the last run all runs are added
abbrev pub point_numbers : List Run → ℕ → List ℕ
point_numbers rs zero = []
point_numbers rs (suc n) = point_numbers rs n ++ ((sums_before rs (64 * n)).count ∷ (sums_before rs (64 * n)).total ∷ [])

-- ---- what a lookup goes by

-- so many checkpoints have the counts of the runs before them; and their totals
abbrev pub CountsAt : List Run → List ℕ → ℕ → Type 0
CountsAt rs points count = (i : ℕ) → i < count → slice_index points (2 * i) ≡ length (expand (take (64 * i) rs))

abbrev pub TotalsAt : List Run → List ℕ → ℕ → Type 0
TotalsAt rs points count = (i : ℕ) → i < count → slice_index points (2 * i + 1) ≡ sum (expand (take (64 * i) rs))

-- the last of so many checkpoints of which a number is not above x, where these numbers rise; of any others what halving comes to.
-- `field` is 0 for the counts, 1 for the totals
abbrev pub point_upto : List ℕ → ℕ → ℕ → ℕ → ℕ
point_upto points count field x = last_passing (λ i. nat_le (slice_index points (2 * i + field)) x) count
