-- `places::trak::find_heads` meets its contract: the rest of the body stands at the place, and each kind is found or still to be found in the rest.
-- Assumes nothing.
use lib.ListN.{length}
use Rattle.places.proofs.Parts.{At}
use Rattle.places.proofs.Finding.{FindingHeads}
use Rattle.places.proofs.trak.find_heads.Given as goal

abbrev pub invariant-loop-t : goal.invariant-loop-t
invariant-loop-t l = (At l.trak l.t l.at) × FindingHeads l.trak l.t l.found

abbrev pub decreases-loop-t : goal.decreases-loop-t
decreases-loop-t l = length l.t
