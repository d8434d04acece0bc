-- `rates::ceiling` meets its contract: the quotient reaches the numerator where nothing is left, and one more does where something is.
-- Assumes nothing.
use Rattle.rates.proofs.Quotients.{least_ceil}
use Rattle.rates.proofs.ceiling.Goals as goal

pub returns : goal.returns
returns c = rw c.div_ceil.ensures (least_ceil _ _ c.requires)
