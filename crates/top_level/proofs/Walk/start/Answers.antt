-- `top_level::Walk::start` meets its contract: it makes the record that the definition names.
-- Assumes nothing.
use mathlib.Core.Path.{refl}
use Rattle.top_level.proofs.Walk.start.Goals as goal

pub returns : goal.returns
returns c = refl
