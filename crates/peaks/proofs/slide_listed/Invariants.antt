-- `peaks::slide_listed` meets its contract: what left the window and what entered it make up its bytes, and each turn's are no more than the most.
-- Assumes nothing.
use lib.ListN.{length}
use Rattle.peaks.proofs.Overs.{Over}
use Rattle.peaks.proofs.slide_listed.Given as goal

abbrev pub invariant-loop-h : goal.invariant-loop-h
invariant-loop-h l = Over l.tails l.heads l.bytes l.most l.t l.h l.moved l.entered l.left

abbrev pub decreases-loop-h : goal.decreases-loop-h
decreases-loop-h l = length l.h
