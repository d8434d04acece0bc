-- `host_opened::hand_opened_media_time` meets its contract: refused by the handle's length, or the answer by the handle that the numbers are.
-- Assumes nothing.
use mathlib.Core.Path.{refl}
use Rattle.host_opened.proofs.Handed.{handle_short, handle_whole}
use Rattle.host_opened.proofs.hand_opened_media_time.Goals as goal

pub returns-then-handle-lt-NUMBERS : goal.returns-then-handle-lt-NUMBERS
returns-then-handle-lt-NUMBERS c = handle_short _ _ _ _ _ _ c.if-handle-lt-NUMBERS.true refl refl

pub returns : goal.returns
returns c = handle_whole _ _ _ _ _ _ c.if-handle-lt-NUMBERS.false _ (rw c.handle_in-h.ensures at c.media_time.ensures) c.hand_time_answer.ensures
