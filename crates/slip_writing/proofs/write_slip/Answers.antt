-- `slip_writing::write_slip` meets its contract: the source that it makes is that of a whole file.
-- Assumes nothing.
use Rattle.slip_writing.proofs.Slipping.{of_whole}
use Rattle.slip_writing.proofs.write_slip.Goals as goal

pub returns : goal.returns
returns c = of_whole _ _ _ _ _ _ _ _ c.whole.ensures c.write_slip_of.ensures
