-- `host_times::hand_sample_at` meets its contract: the answer of the question.
-- Assumes nothing.
use Rattle.host_times.proofs.hand_sample_at.Goals as goal

pub returns : goal.returns
returns c = rw c.sample_at_time.ensures.answer at c.hand_number_answer.ensures
