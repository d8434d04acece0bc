-- `host_samples::hand_sample_bytes` meets its contract, case by case of the answer.
-- Assumes nothing.
use Rattle.hand.proofs.Answered.{handed}
use Rattle.host_samples.specs.Numbers.{bytes_numbers}
use Rattle.host_samples.proofs.Part.{of_whole}
use Rattle.host_samples.proofs.hand_sample_bytes.Goals as goal

pub returns-in-Ok : goal.returns-in-Ok
unfolding bytes_numbers
returns-in-Ok c =
    handed _ _ _ _ _ _
    (of_whole _ _ _ _ _ _ c.whole.ensures c.sample_by_number.ensures.answer c.in-Ok.is)
    c.hand.ensures

pub returns-in-Err : goal.returns-in-Err
unfolding bytes_numbers
returns-in-Err c =
    handed _ _ _ _ _ _
    (of_whole _ _ _ _ _ _ c.whole.ensures c.sample_by_number.ensures.answer c.in-Err.is)
    (rw c.from.ensures at c.hand-in-Err.ensures)
