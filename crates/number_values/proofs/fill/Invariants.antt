-- `number_values::fill` meets its contract: the invariant says that the values left, stored from j on, make what all of them make of the room at entry.
-- Assumes nothing.
use mathlib.Core.Path.{◌≡◌}
use Prim.Native.Nat.{◌-◌}
use lib.Seq.{sets}
use Rattle.std.specs.Prelude.{map}
use Rattle.leb128.specs.Reading.{more_of, top_of}
use Rattle.number_values.specs.Values.{values_from}
use Rattle.number_values.proofs.fill.Given as goal

abbrev pub invariant-loop-j : goal.invariant-loop-j
invariant-loop-j g l =
    sets l.room l.j (map g.T.RoomNumber.stored (values_from (more_of g.T.RoomNumber.WIDE) (top_of g.T.RoomNumber.WIDE) l.bytes (l.n - l.j) l.p))
    ≡ sets l.initial.room 0 (map g.T.RoomNumber.stored (values_from (more_of g.T.RoomNumber.WIDE) (top_of g.T.RoomNumber.WIDE) l.bytes l.n l.at))
