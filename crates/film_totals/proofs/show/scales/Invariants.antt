-- `film_totals::show::scales` is safe and ends: its measure is how many scales are left.
-- Assumes nothing.
use Prim.Native.Nat.{◌-◌}
use Rattle.film_totals.proofs.show.scales.Given as goal

abbrev pub invariant-loop-i : goal.invariant-loop-i
invariant-loop-i g l = Unit {0}

abbrev pub decreases-loop-i : goal.decreases-loop-i
decreases-loop-i g l = l.count - l.i
