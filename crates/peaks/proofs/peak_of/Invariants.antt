-- `peaks::peak_of` meets its contract: the best run so far and the runs from the window on are the best of all, and at the end no run is left.
-- Assumes nothing.
use Prim.Native.Nat.{◌-◌}
use lib.ListN.{length}
use Rattle.runs.specs.Runs.{per_sample}
use Rattle.peaks.proofs.Passing.{Passes}
use Rattle.peaks.proofs.peak_of.Given as goal

abbrev pub invariant-loop-w : goal.invariant-loop-w
invariant-loop-w l = Passes l.scale l.stts l.stsz l.best l.w

abbrev pub decreases-loop-w : goal.decreases-loop-w
decreases-loop-w l = length (per_sample l.stts) - l.w.first
