-- `feature_questions::to_value` meets its contract, case by case.
-- Assumes nothing.
use Rattle.feature_questions.proofs.Computing.{to_computed, to_refused}
use Rattle.feature_questions.proofs.to_value.Goals as goal

pub returns-in-Some : goal.returns-in-Some
returns-in-Some c = to_computed _ _ c.in-Some.is

pub returns-in-None : goal.returns-in-None
returns-in-None c = to_refused _ c.in-None.is
