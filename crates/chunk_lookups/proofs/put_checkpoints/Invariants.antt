-- `chunk_lookups::put_checkpoints` meets its contract: the checkpoints put so far, and the sums before the next one.
-- Assumes nothing.
use Rattle.std.proofs.Common.{◌≡◌, ◌*◌, ◌≤◌, length}
use lib.Seq.{sets}
use Rattle.checkpoints.specs.Points.{sums_before, point_numbers}
use Rattle.chunk_lookups.specs.From.{deal_runs}
use Rattle.chunk_lookups.proofs.put_checkpoints.Given as goal

abbrev pub invariant-loop-i : goal.invariant-loop-i
invariant-loop-i l = (l.i ≤ l.count) × (l.r ≡ sums_before (deal_runs l.stsc l.chunks) (64 * l.i)) × (l.room ≡ sets l.initial.room 0 (point_numbers (deal_runs l.stsc l.chunks) l.i)) × (length l.room ≡ length l.initial.room)
