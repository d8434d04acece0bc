-- `feature_questions::to_run` meets its contract, case by case.
-- Assumes nothing.
use Rattle.feature_questions.proofs.Computing.{to_located, to_not_located}
use Rattle.feature_questions.proofs.to_run.Goals as goal

pub returns-in-Some : goal.returns-in-Some
returns-in-Some c = to_located _ _ c.in-Some.is

pub returns-in-None : goal.returns-in-None
returns-in-None c = to_not_located _ c.in-None.is
