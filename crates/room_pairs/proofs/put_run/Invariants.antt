-- `room_pairs::put_run` meets its contract: the loop keeps what `Filling` says, two pairs a turn, and one more may be left.
-- Assumes nothing.
use Prim.Native.Nat.{◌*◌}
use mathlib.Core.Path.{◌≡◌}
use mathlib.Core.List.{map}
use lib.ListN.{length}
use Rattle.words.specs.Words.{numbers_in, width_of}
use Rattle.pairs.specs.Walks.{equal_length_pairs}
use Rattle.pairs.specs.Moves.{Filling}
use Rattle.room_pairs.proofs.put_run.Given as goal

-- the width is that of the offsets
abbrev pub invariant-loop-t : goal.invariant-loop-t
invariant-loop-t g l = (l.width ≡ width_of l.long) × (l.step ≡ 2 * l.width) × Filling g.N.RoomNumber.limit (equal_length_pairs l.bytes (numbers_in (width_of l.long) l.offsets)) (map g.N.RoomNumber.value l.initial.room) l.at (equal_length_pairs l.bytes (numbers_in (width_of l.long) l.t)) (map g.N.RoomNumber.value l.room) l.k l.total

abbrev pub decreases-loop-t : goal.decreases-loop-t
decreases-loop-t g l = length l.t
