-- `host_features::hand_peak` meets its contract, case by case of the answer.
-- Assumes nothing.
use Rattle.hand.proofs.Answered.{handed, of_case}
use Rattle.feature_questions.specs.Feature.{peak_numbers}
use Rattle.host_features.proofs.hand_peak.Goals as goal

pub returns-in-Ok : goal.returns-in-Ok
unfolding peak_numbers
returns-in-Ok c =
    handed _ _ _ _ _ _
    (of_case peak_numbers c.peak_by_code.ensures.answer c.in-Ok.is)
    c.hand.ensures

pub returns-in-Err : goal.returns-in-Err
unfolding peak_numbers
returns-in-Err c =
    handed _ _ _ _ _ _
    (of_case peak_numbers c.peak_by_code.ensures.answer c.in-Err.is)
    (rw c.from.ensures at c.hand-in-Err.ensures)
