-- `capi::fragment_check::chaldoref_fragments` meets its contract: the source of its call is that of a whole file.
-- Assumes nothing.
use Rattle.capi.proofs.fragment_check.chaldoref_fragments.Goals as goal

pub returns : goal.returns
returns c = rw c.whole.ensures at c.hand_fragments.ensures
