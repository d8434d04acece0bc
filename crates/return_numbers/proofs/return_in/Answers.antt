-- `return_numbers::return_in` meets its contract: each field is read at its place.
-- Assumes nothing.
use Rattle.return_numbers.proofs.Again.{return_is}
use Rattle.return_numbers.proofs.return_in.Goals as goal

pub returns : goal.returns
returns c = return_is _ _ _ _ c.copy_from.ensures c.copy_low.ensures c.copy_from-2.ensures
