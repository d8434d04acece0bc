-- `return_numbers::copy_from` meets its contract. The loop's invariant: the first i places hold the first i numbers.
-- Assumes nothing.
use Prim.Native.Nat.{ℕ, ◌-◌, ◌≤◌}
use mathlib.Core.Path.{◌≡◌}
use mathlib.Core.List.{map}
use lib.ListN.{length, take, drop}
use Rattle.return_numbers.proofs.copy_from.Given as goal

abbrev pub invariant-loop-i : goal.invariant-loop-i
invariant-loop-i l = (l.i ≤ length l.room) × (length l.room ≡ length l.initial.room) × (take l.i l.room ≡ map (λ (x : ℕ). x) (take l.i (drop l.from l.numbers)))

abbrev pub decreases-loop-i : goal.decreases-loop-i
decreases-loop-i l = length l.initial.room - l.i
