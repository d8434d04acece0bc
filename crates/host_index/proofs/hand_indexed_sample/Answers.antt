-- `host_index::hand_indexed_sample` meets its contract: refused by the handle's length, or the answer by the handle that the numbers are.
-- Assumes nothing.
use mathlib.Core.Path.{refl}
use Rattle.host_opened.proofs.Handed.{handle_short, handle_whole}
use Rattle.host_index.proofs.Handed.{indexed_low}
use Rattle.host_index.proofs.hand_indexed_sample.Goals as goal

pub returns-then-handle-lt-NUMBERS : goal.returns-then-handle-lt-NUMBERS
returns-then-handle-lt-NUMBERS c = handle_short _ _ _ _ _ _ c.if-handle-lt-NUMBERS.true refl refl

pub hand_sample_answer-requires : goal.hand_sample_answer-requires
hand_sample_answer-requires c = indexed_low _ _ _ _ _ _ c.handle_in-h.ensures c.sample_by_index.ensures

pub returns : goal.returns
returns c = handle_whole _ _ _ _ _ _ c.if-handle-lt-NUMBERS.false _ (rw c.handle_in-h.ensures at c.sample_by_index.ensures) c.hand_sample_answer.ensures
