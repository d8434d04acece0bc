-- `host_index::hand_index` meets its contract: refused by the handle's length or for want of a place, or the index of the handle that the numbers are.
-- Assumes nothing.
use mathlib.Core.Path.{refl}
use Rattle.host_index.proofs.Handed.{index_handle_short, index_no_place, index_refused, index_done}
use Rattle.host_index.proofs.hand_index.Goals as goal

pub returns-then-handle-lt-NUMBERS : goal.returns-then-handle-lt-NUMBERS
returns-then-handle-lt-NUMBERS c = index_handle_short _ _ _ _ c.if-handle-lt-NUMBERS.true

pub returns-then-places-lt1 : goal.returns-then-places-lt1
returns-then-places-lt1 c = index_no_place _ _ _ _ c.if-handle-lt-NUMBERS.false c.if-places-lt1.true

pub returns-then-refused-ne0 : goal.returns-then-refused-ne0
returns-then-refused-ne0 c = index_refused _ _ _ _ c.if-handle-lt-NUMBERS.false _ c.handle_in-h.ensures c.if-places-lt1.false _ _ (rw c.code-refused.ensures c.index_into-filled.ensures) c.if-refused-ne0.true _ _ c.hand.ensures

pub returns : goal.returns
returns c = index_done _ _ _ _ c.if-handle-lt-NUMBERS.false _ c.handle_in-h.ensures c.if-places-lt1.false _ _ (rw c.code-refused.ensures c.index_into-filled.ensures) c.if-refused-ne0.false _ _ _ _ c.checkpoints_of.ensures.0 refl c.hand-2.ensures
