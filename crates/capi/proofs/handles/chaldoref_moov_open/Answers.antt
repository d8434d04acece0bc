-- `capi::handles::chaldoref_moov_open` meets its contract: the source of its call is that of a moov alone.
-- Assumes nothing.
use Rattle.capi.proofs.handles.chaldoref_moov_open.Goals as goal

pub returns : goal.returns
returns c = rw c.of_moov.ensures at c.hand_opening.ensures
