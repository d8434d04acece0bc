-- `steps_into::steps_into` meets its contract; the loop's invariant: the samples put so far are those of a chain of steps to the position.
-- Assumes nothing.
use Prim.Native.Nat.{◌-◌}
use lib.ListN.{length}
use Rattle.steps_into.proofs.Chained.{Putting}
use Rattle.steps_into.proofs.steps_into.Given as goal

abbrev pub invariant-loop-room : goal.invariant-loop-room
invariant-loop-room l = Putting l.lent (record { tables = l.tables; samples = l.samples; moving = l.initial.m }) l.initial.room (record { tables = l.tables; samples = l.samples; moving = l.m }) l.room l.at

abbrev pub decreases-loop-room : goal.decreases-loop-room
decreases-loop-room l = length l.initial.room - l.at
