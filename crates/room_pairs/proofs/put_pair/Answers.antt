-- `room_pairs::put_pair` meets its contract: two stores, one place after the other.
-- Assumes nothing.
use Rattle.std.proofs.Common.{arith, length-set}
use Rattle.std.proofs.lemmas.List.{length-map}
use Rattle.room_pairs.proofs.Rooms.{two_stores}
use Rattle.room_pairs.proofs.put_pair.Goals as goal

pub bounds-room-at : goal.bounds-room-at
bounds-room-at g c = omega (arith, length-map c.args.room.now g.N.RoomNumber.value, c.requires.2)

pub bounds-room-at-2 : goal.bounds-room-at-2
bounds-room-at-2 g c = simp (length-set) (omega (arith, length-map c.args.room.now g.N.RoomNumber.value, c.requires.2))

pub returns : goal.returns
returns g c = two_stores g.N.RoomNumber.value _ _ _ _ _ _ c.of.ensures c.of-2.ensures
