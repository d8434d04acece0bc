-- `host_features::hand_feature` meets its contract, case by case of the answer.
-- Assumes nothing.
use Rattle.hand.proofs.Answered.{handed, of_case}
use Rattle.feature_questions.specs.Feature.{feature_numbers}
use Rattle.host_features.proofs.hand_feature.Goals as goal

pub returns-in-Ok : goal.returns-in-Ok
unfolding feature_numbers
returns-in-Ok c =
    handed _ _ _ _ _ _
    (of_case feature_numbers c.feature_by_code.ensures.answer c.in-Ok.is)
    c.hand.ensures

pub returns-in-Err : goal.returns-in-Err
unfolding feature_numbers
returns-in-Err c =
    handed _ _ _ _ _ _
    (of_case feature_numbers c.feature_by_code.ensures.answer c.in-Err.is)
    (rw c.from.ensures at c.hand-in-Err.ensures)
