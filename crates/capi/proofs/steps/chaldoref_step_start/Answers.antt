-- `capi::steps::chaldoref_step_start` meets its contract: the source of its call is that of a whole file.
-- Assumes nothing.
use Rattle.capi.proofs.steps.chaldoref_step_start.Goals as goal

pub returns : goal.returns
returns c = rw c.whole.ensures at c.hand_step_start.ensures
