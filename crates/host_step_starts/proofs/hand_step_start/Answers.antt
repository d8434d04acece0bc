-- `host_step_starts::hand_step_start` meets its contract: the start is handed over as it is.
-- Assumes nothing.
use Rattle.host_step_starts.proofs.Handed.{hands_start}
use Rattle.host_step_starts.proofs.hand_step_start.Goals as goal

pub returns : goal.returns
returns c = hands_start _ _ _ _ _ _ _ _ c.at.ensures c.hand_start.ensures
