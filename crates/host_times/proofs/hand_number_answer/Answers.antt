-- `host_times::hand_number_answer` meets its contract, case by case of the answer.
-- Assumes nothing.
use mathlib.Core.Path.{ap}
use Rattle.hand.proofs.Answered.{handed}
use Rattle.time_questions.specs.Times.{number_numbers}
use Rattle.host_times.proofs.hand_number_answer.Goals as goal

pub returns-in-Ok : goal.returns-in-Ok
unfolding number_numbers
returns-in-Ok c = handed _ _ _ _ _ _ (ap number_numbers c.in-Ok.is) c.hand.ensures

pub returns-in-Err : goal.returns-in-Err
unfolding number_numbers
returns-in-Err c = handed _ _ _ _ _ _ (ap number_numbers c.in-Err.is) (rw c.from.ensures at c.hand-in-Err.ensures)
