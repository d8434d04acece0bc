-- `return_numbers::copy_low` meets its contract. The loop's invariant: the first i places hold the first i numbers, cut.
-- Assumes nothing.
use Prim.Native.Nat.{◌-◌, ◌≤◌}
use mathlib.Core.Path.{◌≡◌}
use mathlib.Core.List.{map}
use lib.ListN.{length, take, drop}
use Rattle.return_numbers.specs.Numbers.{low}
use Rattle.return_numbers.proofs.copy_low.Given as goal

abbrev pub invariant-loop-i : goal.invariant-loop-i
invariant-loop-i l = (l.i ≤ length l.room) × (length l.room ≡ length l.initial.room) × (take l.i l.room ≡ map low (take l.i (drop l.from l.numbers)))

abbrev pub decreases-loop-i : goal.decreases-loop-i
decreases-loop-i l = length l.initial.room - l.i
