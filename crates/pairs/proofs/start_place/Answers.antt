-- `pairs::start_place` meets its contract: the place that `seek` finds.
-- Assumes nothing.
use mathlib.Core.Path.{refl}
use Rattle.pairs.proofs.Walking.{starts}
use Rattle.pairs.proofs.start_place.Goals as goal

pub returns : goal.returns
returns c = starts _ _ _ _ _ _ c.seek-found.ensures refl c.span.ensures
