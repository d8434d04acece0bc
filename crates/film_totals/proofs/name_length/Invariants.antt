-- `film_totals::name_length` meets its contract. The loop's invariant: no line feed is among the first i bytes.
-- Assumes nothing.
use Prim.Native.Nat.{◌+◌, ◌-◌, ◌≤◌}
use mathlib.Core.Path.{◌≡◌}
use lib.ListN.{length, drop}
use Rattle.film_totals.specs.Names.{name_length}
use Rattle.film_totals.proofs.name_length.Given as goal

abbrev pub invariant-loop-i : goal.invariant-loop-i
invariant-loop-i l = (l.i ≤ length l.names) × (l.i + name_length (drop l.i l.names) ≡ name_length l.names)

abbrev pub decreases-loop-i : goal.decreases-loop-i
decreases-loop-i l = length l.names - l.i
