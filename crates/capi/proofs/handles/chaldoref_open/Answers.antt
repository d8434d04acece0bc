-- `capi::handles::chaldoref_open` meets its contract: the source of its call is that of a whole file.
-- Assumes nothing.
use Rattle.capi.proofs.handles.chaldoref_open.Goals as goal

pub returns : goal.returns
returns c = rw c.whole.ensures at c.hand_opening.ensures
