-- `runs::cursor::run_ready` meets its contract: a cursor past an entry of no samples is readied to the same one.
-- Assumes nothing.
use Prim.Native.Nat.{◌-◌}
use mathlib.Core.Path.{◌≡◌}
use lib.ListN.{length}
use Rattle.runs.specs.Cursors.{readied_run}
use Rattle.runs.proofs.cursor.run_ready.Given as goal

abbrev pub invariant-loop-r : goal.invariant-loop-r
invariant-loop-r l = readied_run l.table l.r ≡ readied_run l.table l.initial.r

abbrev pub decreases-loop-r : goal.decreases-loop-r
decreases-loop-r l = length l.table - l.r.at
