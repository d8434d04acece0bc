-- `capi::chaldoref_edits` meets its contract: the source of its call is that of a whole file.
-- Assumes nothing.
use Rattle.capi.proofs.chaldoref_edits.Goals as goal

pub returns : goal.returns
returns c = rw c.whole.ensures at c.hand_edits.ensures
