-- `host_step_starts::hand_start` meets its contract: case by case of the start.
-- Assumes nothing.
use Rattle.host_step_starts.proofs.Handed.{start_at, start_refused}
use Rattle.host_step_starts.proofs.hand_start.Goals as goal

pub returns-in-Ok : goal.returns-in-Ok
returns-in-Ok c = start_at _ _ _ _ _ c.in-Ok.is c.hand_position.ensures

pub returns-in-Err : goal.returns-in-Err
returns-in-Err c = start_refused _ _ _ _ _ c.in-Err.is (rw c.from.ensures at c.hand.ensures)
