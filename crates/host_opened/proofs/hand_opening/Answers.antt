-- `host_opened::hand_opening` meets its contract, case by case of the answer.
-- Assumes nothing.
use Rattle.host_opened.specs.Hands.{open_values}
use Rattle.host_opened.proofs.Handed.{opened_track, opened_refused}
use Rattle.host_opened.proofs.hand_opening.Goals as goal

pub returns-in-Ok : goal.returns-in-Ok
returns-in-Ok c = opened_track _ _ _ _ _ _ _ _ c.of.ensures c.in-Ok.is c.hand_handle.ensures

pub returns-in-Err : goal.returns-in-Err
unfolding open_values
returns-in-Err c = opened_refused _ _ _ _ _ _ _ _ c.of.ensures c.in-Err.is (rw c.from.ensures at c.hand.ensures)
