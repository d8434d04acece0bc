-- `profile_faults::first_fault` meets its contract; the loop's invariant: no record passed is at fault, so the rest decides.
-- Assumes nothing.
use lib.ListN.{length}
use Rattle.profile_faults.proofs.Faults.{Passed}
use Rattle.profile_faults.proofs.first_fault.Given as goal

abbrev pub invariant-loop-t : goal.invariant-loop-t
invariant-loop-t l = Passed l.movie l.trak l.missing l.bounds l.t l.place

abbrev pub decreases-loop-t : goal.decreases-loop-t
decreases-loop-t l = length l.t
