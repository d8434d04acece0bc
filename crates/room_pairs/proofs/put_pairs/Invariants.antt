-- `room_pairs::put_pairs` meets its contract: the loop keeps what `Walked` says, some chunks a turn.
-- Assumes nothing.
use mathlib.Core.List.{map}
use lib.ListN.{length}
use Rattle.chunks.specs.Cursors.{ahead}
use Rattle.pairs.proofs.Filling.{Walked}
use Rattle.room_pairs.proofs.put_pairs.Given as goal

abbrev pub invariant-loop-p : goal.invariant-loop-p
invariant-loop-p g l = Walked g.N.RoomNumber.limit l.stsc l.stsz l.offsets l.chunks l.from l.stop (map g.N.RoomNumber.value l.initial.room) l.p (map g.N.RoomNumber.value l.room) l.at l.total

abbrev pub decreases-loop-p : goal.decreases-loop-p
decreases-loop-p g l = length (ahead l.stsc l.chunks l.p.cursor)
