-- `places::moov::find_movie_heads` meets its contract: the rest of the body stands at the place, and the header is still to be found in it.
-- Assumes nothing.
use lib.ListN.{length}
use Rattle.places.proofs.Parts.{At}
use Rattle.places.proofs.Movies.{SeeksHeads}
use Rattle.places.proofs.moov.find_movie_heads.Given as goal

abbrev pub invariant-loop-t : goal.invariant-loop-t
invariant-loop-t l = (At l.lent l.t l.at) × SeeksHeads l.lent l.initial.t l.t l.profile

abbrev pub decreases-loop-t : goal.decreases-loop-t
decreases-loop-t l = length l.t
