-- `capi::quay_check::chaldoref_moov_check_quay` meets its contract: the source of its call is that of a moov alone.
-- Assumes nothing.
use Rattle.capi.proofs.quay_check.chaldoref_moov_check_quay.Goals as goal

pub returns : goal.returns
returns c = rw c.of_moov.ensures at c.hand_quay.ensures
