-- `slip::read_slip` meets its contract: 32-bit numbers are stored as they are.
-- Assumes nothing.
use mathlib.Core.Path.{◌∙◌}
use Rattle.slip.proofs.Found.{stored_plain}
use Rattle.slip.proofs.read_slip.Goals as goal

pub returns : goal.returns
returns c = record { numbers = c.read_into.ensures.numbers; places = c.read_into.ensures.places ∙ stored_plain _ _ }
