-- "For each sample, take the shortest run starting there": how long it is.
use Rattle.std.specs.Prelude.{ℕ, suc, ◌-◌, List}
use Rattle.lists.specs.Lists.{holder}

-- "the shortest run starting there whose durations total at least the time scale": how many samples it has, from the first of ds on;
-- one more than there are where none gets there. s is above 0. `peaks/proofs/Sentences.antt` shows that it gets there, and that no
-- shorter one does (`run_reaches`, `run_shortest`), and of `highest` that no run is higher and one has that rate (`at_most`,
-- `attained`)
abbrev pub run_length : ℕ → List ℕ → ℕ
run_length s ds = suc (holder ds (s - 1))
