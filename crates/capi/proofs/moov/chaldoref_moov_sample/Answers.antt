-- `capi::moov::chaldoref_moov_sample` meets its contract: the source of its call is that of a moov alone.
-- Assumes nothing.
use Rattle.capi.proofs.moov.chaldoref_moov_sample.Goals as goal

pub returns : goal.returns
returns c = rw c.of_moov.ensures at c.hand_sample.ensures
