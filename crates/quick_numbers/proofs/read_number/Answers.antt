-- `quick_numbers::read_number` meets its contract: what the quick way has is the number at the place.
-- Assumes nothing.
use mathlib.Core.Path.{sym, ◌∙◌}
use Rattle.quick_numbers.proofs.Quick.{quick_is}
use Rattle.quick_numbers.proofs.read_number.Goals as goal

pub returns-in-Some : goal.returns-in-Some
returns-in-Some c = sym (quick_is c.args.wide c.args.bytes.now c.args.at c.in-Some.number (λ i. (c.type_inv.bytes i).fits) (sym c.in-Some.is ∙ c.quick_at.ensures))
