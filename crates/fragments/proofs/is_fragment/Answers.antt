-- `fragments::is_fragment` meets its contract.
-- Assumes nothing.
use Rattle.fragments.proofs.is_fragment.Goals as goal

pub returns : goal.returns
returns c = rw (← c.u32_at.ensures)
