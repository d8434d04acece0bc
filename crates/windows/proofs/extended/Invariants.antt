-- `windows::extended` meets its contract: each sample that is taken in leaves the window the start of the shortest run, until it reaches or no sample is left.
-- Assumes nothing.
use Prim.Native.Nat.{◌-◌}
use mathlib.Core.Path.{◌≡◌}
use lib.ListN.{length}
use Rattle.runs.specs.Runs.{per_sample}
use Rattle.windows.specs.Windows.{Slides}
use Rattle.windows.proofs.extended.Given as goal

abbrev pub invariant-loop-r : goal.invariant-loop-r
invariant-loop-r l = Slides l.scale l.stts l.stsz l.r × (l.r.first ≡ l.initial.r.first)

abbrev pub decreases-loop-r : goal.decreases-loop-r
decreases-loop-r l = length (per_sample l.stts) - l.r.stop
