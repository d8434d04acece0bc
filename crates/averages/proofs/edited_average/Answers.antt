-- `averages::edited_average` meets its contract: its calls return the parts that the definition is made of.
-- Assumes nothing.
use Rattle.averages.proofs.Covers.{average_is}
use Rattle.averages.proofs.edited_average.Goals as goal

pub returns : goal.returns
returns c = average_is _ _ _ _ _ _ c.edits_added-a.ensures c.rate.ensures
