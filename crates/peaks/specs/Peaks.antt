-- Document 02, Ask 1, "Highest rate over a second": s is the media's time scale, ds are the durations of the samples from one on,
-- and zs their sizes. Edits are not looked at.
use Rattle.std.specs.Prelude.{ℕ, suc, ◌*◌, max, Bool, false, cond, List, [], ◌∷◌, length, take, drop, ltb, leb, eqb, Option, Some, None}
use Rattle.lists.specs.Lists.{sum}
use Rattle.windows.specs.Lengths.{run_length}
use Rattle.rates.specs.Rates.{rate_of}
use Rattle.peaks.specs.declared.Peak.{Peak}

-- "8 × its sizes × scale / its durations, rounded up", of the first n samples
abbrev pub run_rate : ℕ → ℕ → List ℕ → List ℕ → Option ℕ
run_rate s n ds zs = rate_of (8 * sum (take n zs) * s) (sum (take n ds))

-- "the greatest" of two; "18 on the grounds 01 has for the averages, judged for any run": where one can't be computed, the feature can't
abbrev pub higher : Option ℕ → Option ℕ → Option ℕ
higher (Some a) (Some b) = Some (max a b)
higher (Some a) None = None
higher None f = None

-- "For each sample .. Runs that never get there are left out": the greatest rate of those that do, 0 where none does
abbrev pub highest : ℕ → List ℕ → List ℕ → Option ℕ
highest s [] zs = Some 0
highest s (d ∷ ds) zs =
    cond (leb s (sum (d ∷ ds))) (higher (run_rate s (run_length s (d ∷ ds)) (d ∷ ds) zs) (highest s ds (drop 1 zs))) (highest s ds (drop 1 zs))

-- "if no run gets there, the whole track is the only run". The run of sample 1 gets there if any does
unfoldable pub peak_of : ℕ → List ℕ → List ℕ → Option ℕ
peak_of s ds zs = cond (ltb (sum ds) s) (rate_of (8 * sum zs * s) (sum ds)) (highest s ds zs)

-- ---- where the peak is: the papers do not ask for it

-- whether a rate is v
abbrev pub is_rate : ℕ → Option ℕ → Bool
is_rate v (Some x) = eqb x v
is_rate v None = false

-- the index, from 0, of the first sample whose run has the rate v
abbrev pub first_at : ℕ → ℕ → List ℕ → List ℕ → ℕ
first_at s v [] zs = 0
first_at s v (d ∷ ds) zs = cond (is_rate v (run_rate s (run_length s (d ∷ ds)) (d ∷ ds) zs)) 0 (suc (first_at s v ds (drop 1 zs)))

-- the greatest rate; the number, from 1, of the first sample whose run has it; and how many samples that run has
abbrev pub placed : ℕ → List ℕ → List ℕ → Option ℕ → Option Peak
placed s ds zs (Some v) =
    cond (ltb (sum ds) s) (Some (record { rate = v; first = 1; count = length ds })) (Some (record { rate = v; first = suc (first_at s v ds zs); count = run_length s (drop (first_at s v ds zs) ds) }))
placed s ds zs None = None

unfoldable pub peak_in : ℕ → List ℕ → List ℕ → Option Peak
peak_in s ds zs = placed s ds zs (peak_of s ds zs)

-- its rate alone
abbrev pub rate_in : Option Peak → Option ℕ
rate_in (Some p) = Some p.rate
rate_in None = None
