-- `host_samples::hand_sample` meets its contract: the answer of the question, whose numbers are low.
-- Assumes nothing.
use native.Mathlib.Omega.{arith}
use Rattle.questions.proofs.Found.{found_low}
use Rattle.host_samples.proofs.hand_sample.Goals as goal

pub sample_by_number-requires : goal.sample_by_number-requires
sample_by_number-requires c = tt

pub hand_sample_answer-requires : goal.hand_sample_answer-requires
hand_sample_answer-requires c = λ x e. let l = found_low _ _ _ _ _ x c.sample_by_number.ensures e in (omega (arith, l.decode), omega (arith, l.chunk), l.offset)

pub returns : goal.returns
returns c = rw c.sample_by_number.ensures.answer at c.hand_sample_answer.ensures
