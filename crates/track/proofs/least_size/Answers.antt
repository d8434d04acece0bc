-- `track::least_size` meets its contract: the test is the one of the definition.
-- Assumes nothing.
use borrow.Author.Tests.{ne_eqb}
use Rattle.track.specs.Track.{least_size}
use Rattle.track.proofs.least_size.Goals as goal

pub returns-then-subtype-eq-VIDE : goal.returns-then-subtype-eq-VIDE
unfolding least_size
returns-then-subtype-eq-VIDE c = rw c.if-subtype-eq-VIDE.true

pub returns-else-subtype-eq-VIDE : goal.returns-else-subtype-eq-VIDE
unfolding least_size
returns-else-subtype-eq-VIDE c = rw (ne_eqb _ _ c.if-subtype-eq-VIDE.false)
