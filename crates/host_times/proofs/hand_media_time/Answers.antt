-- `host_times::hand_media_time` meets its contract: the answer of the question.
-- Assumes nothing.
use Rattle.host_times.proofs.hand_media_time.Goals as goal

pub returns : goal.returns
returns c = rw c.media_time_of.ensures.answer at c.hand_time_answer.ensures
