-- `checkpoints::put_checkpoints` meets its contract: the checkpoints put so far, and the sums before the next one.
-- Assumes nothing.
use Rattle.std.proofs.Common.{◌≡◌, ◌*◌, ◌≤◌, length}
use lib.Seq.{sets}
use Rattle.runs.specs.Runs.{runs_of}
use Rattle.checkpoints.specs.Points.{sums_before, point_numbers}
use Rattle.checkpoints.proofs.put_checkpoints.Given as goal

abbrev pub invariant-loop-i : goal.invariant-loop-i
invariant-loop-i l = (l.i ≤ l.count) × (l.r ≡ sums_before (runs_of l.table) (64 * l.i)) × (l.room ≡ sets l.initial.room 0 (point_numbers (runs_of l.table) l.i)) × (length l.room ≡ length l.initial.room)
