-- `leb128::number::number_in` meets its contract: the loop keeps `Joining`, that the number is what its groups so far count, joined to what is read past them.
-- Assumes nothing.
use Prim.Native.Nat.{◌-◌, ◌≤◌}
use Rattle.leb128.proofs.Readings.{Joining}
use Rattle.leb128.proofs.number.number_in.Given as goal

abbrev pub invariant-loop-p : goal.invariant-loop-p
invariant-loop-p l = Joining l.more l.top l.bytes l.at l.p l.low l.unit (l.more - (l.p - l.at)) × (l.p - l.at ≤ l.more)
