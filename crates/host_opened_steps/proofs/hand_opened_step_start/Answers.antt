-- `host_opened_steps::hand_opened_step_start` meets its contract: refused by the handle's length, or the start by the handle that the numbers are.
-- Assumes nothing.
use mathlib.Core.Path.{refl}
use Rattle.host_opened.proofs.Handed.{handle_short, handle_whole}
use Rattle.host_opened_steps.proofs.hand_opened_step_start.Goals as goal

pub returns-then-handle-lt-NUMBERS : goal.returns-then-handle-lt-NUMBERS
returns-then-handle-lt-NUMBERS c = handle_short _ _ _ _ _ _ c.if-handle-lt-NUMBERS.true refl refl

pub returns : goal.returns
returns c = handle_whole _ _ _ _ _ _ c.if-handle-lt-NUMBERS.false _ (rw c.handle_in-h.ensures at c.start_by.ensures) c.hand_start.ensures
