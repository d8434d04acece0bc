-- `capi::steps::chaldoref_moov_step_start` meets its contract: the source of its call is that of a moov alone.
-- Assumes nothing.
use Rattle.capi.proofs.steps.chaldoref_moov_step_start.Goals as goal

pub returns : goal.returns
returns c = rw c.of_moov.ensures at c.hand_step_start.ensures
