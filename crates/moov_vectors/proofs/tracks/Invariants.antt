-- `moov_vectors::tracks` is safe and ends: its measure is how much of the list is left.
-- Assumes nothing.
use lib.ListN.{length}
use Rattle.moov_vectors.proofs.tracks.Given as goal

abbrev pub invariant-loop-t : goal.invariant-loop-t
invariant-loop-t g l = Unit {0}

abbrev pub decreases-loop-t : goal.decreases-loop-t
decreases-loop-t g l = length l.t
