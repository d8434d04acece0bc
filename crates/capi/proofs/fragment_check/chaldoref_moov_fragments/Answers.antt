-- `capi::fragment_check::chaldoref_moov_fragments` meets its contract: the source of its call is that of a moov alone.
-- Assumes nothing.
use Rattle.capi.proofs.fragment_check.chaldoref_moov_fragments.Goals as goal

pub returns : goal.returns
returns c = rw c.of_moov.ensures at c.hand_fragments.ensures
