-- `capi::chaldoref_track_list` meets its contract: the source of its call is that of a whole file.
-- Assumes nothing.
use Rattle.capi.proofs.chaldoref_track_list.Goals as goal

pub returns : goal.returns
returns c = rw c.whole.ensures at c.hand_track_list.ensures
