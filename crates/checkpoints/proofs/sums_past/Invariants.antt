-- `checkpoints::sums_past` meets its contract: what is added so far, with the runs still to be added, comes to the same.
-- Assumes nothing.
use Rattle.std.proofs.Common.{◌≡◌, ◌-◌, ◌≤◌, take}
use Rattle.runs.specs.Runs.{runs_in}
use Rattle.checkpoints.specs.Points.{with_runs}
use Rattle.checkpoints.proofs.sums_past.Given as goal

abbrev pub invariant-loop-i : goal.invariant-loop-i
invariant-loop-i l = (l.i ≤ 64) × (with_runs (take (64 - l.i) (runs_in l.s)) l.r ≡ with_runs (take 64 (runs_in l.part)) l.initial.r)

abbrev pub decreases-loop-i : goal.decreases-loop-i
decreases-loop-i l = 64 - l.i
