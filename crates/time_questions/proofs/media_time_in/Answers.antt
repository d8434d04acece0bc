-- `time_questions::media_time_in` meets its contract, by what the calls ensure.
-- Assumes nothing.
use mathlib.Core.Path.{ap, ◌∙◌}
use Rattle.time_questions.specs.Times.{to_answer}
use Rattle.time_questions.proofs.media_time_in.Goals as goal

pub media_at-requires : goal.media_at-requires
media_at-requires c = tt

pub to_answer-requires : goal.to_answer-requires
to_answer-requires c = tt

pub returns : goal.returns
returns c = c.to_answer.ensures ∙ ap to_answer c.media_at.ensures
