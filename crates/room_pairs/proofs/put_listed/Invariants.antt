-- `room_pairs::put_listed` meets its contract: the loop keeps what `Passing` says, a chunk a turn.
-- Assumes nothing.
use mathlib.Core.List.{map}
use lib.ListN.{length}
use Rattle.chunks.specs.Cursors.{ahead}
use Rattle.pairs.proofs.Listing.{Passing}
use Rattle.room_pairs.proofs.put_listed.Given as goal

abbrev pub invariant-loop-part : goal.invariant-loop-part
invariant-loop-part g l = Passing g.N.RoomNumber.limit l.stsc l.stsz l.offsets l.chunks l.from l.stop l.place (map g.N.RoomNumber.value l.initial.room) l.start l.sizes l.c l.z (map g.N.RoomNumber.value l.room) l.n l.bytes

abbrev pub decreases-loop-part : goal.decreases-loop-part
decreases-loop-part g l = length (ahead l.stsc l.chunks l.c)
