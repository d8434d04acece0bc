-- `capi::quay_check::chaldoref_check_quay` meets its contract: the source of its call is that of a whole file.
-- Assumes nothing.
use Rattle.capi.proofs.quay_check.chaldoref_check_quay.Goals as goal

pub returns : goal.returns
returns c = rw c.whole.ensures at c.hand_quay.ensures
