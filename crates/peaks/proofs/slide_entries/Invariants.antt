-- `peaks::slide_entries` meets its contract: each turn takes the window to that of the next sample, whose run is no higher than the best.
-- Assumes nothing.
use Prim.Native.Nat.{◌-◌}
use lib.ListN.{length}
use Rattle.peaks.proofs.EntrySlides.{Enters}
use Rattle.peaks.proofs.slide_entries.Given as goal

abbrev pub invariant-loop-h : goal.invariant-loop-h
invariant-loop-h l = Enters l.scale l.stts l.stsz l.best l.w l.t l.h l.o l.i l.x

abbrev pub decreases-loop-h : goal.decreases-loop-h
decreases-loop-h l = length l.h
