-- `return_numbers::put_low` meets its contract. The loop's invariant: the values that are left, stored from there on, make what all of them make.
-- Assumes nothing.
use Prim.Native.Nat.{◌+◌, ◌-◌, ◌≤◌}
use mathlib.Core.Path.{◌≡◌}
use lib.ListN.{length, drop}
use lib.Seq.{sets}
use Rattle.return_numbers.proofs.put_low.Given as goal

abbrev pub invariant-loop-i : goal.invariant-loop-i
invariant-loop-i l = (l.i ≤ length l.values) × (length l.room ≡ length l.initial.room) × (sets l.room (l.at + l.i) (drop l.i l.values) ≡ sets l.initial.room l.at l.values)

abbrev pub decreases-loop-i : goal.decreases-loop-i
decreases-loop-i l = length l.values - l.i
