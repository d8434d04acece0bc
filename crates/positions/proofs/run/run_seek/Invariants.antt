-- `positions::run::run_seek` meets its contract: the cursor sought is the same from the cursor and the samples still to pass.
-- Assumes nothing.
use Prim.Native.Nat.{◌-◌}
use mathlib.Core.Path.{◌≡◌}
use lib.ListN.{length}
use Rattle.positions.specs.Runs.{sought_run}
use Rattle.positions.proofs.Runs.{sought_from}
use Rattle.positions.proofs.run.run_seek.Given as goal

abbrev pub invariant-loop-r : goal.invariant-loop-r
invariant-loop-r l = sought_from l.table l.r l.skip ≡ sought_run l.table l.index

abbrev pub decreases-loop-r : goal.decreases-loop-r
decreases-loop-r l = length l.table - l.r.at
