-- `time_questions::to_answer` meets its contract, case by case.
-- Assumes nothing.
use Rattle.time_questions.proofs.Mapping.{to_shown, to_nothing, to_outside}
use Rattle.time_questions.proofs.to_answer.Goals as goal

pub returns-in-Media : goal.returns-in-Media
returns-in-Media c = to_shown _ _ c.in-Media.is

pub returns-in-Nothing : goal.returns-in-Nothing
returns-in-Nothing c = to_nothing _ c.in-Nothing.is

pub returns-in-Outside : goal.returns-in-Outside
returns-in-Outside c = to_outside _ c.in-Outside.is
