-- `capi::chaldoref_profile` meets its contract: the source of its call is that of a whole file.
-- Assumes nothing.
use Rattle.capi.proofs.chaldoref_profile.Goals as goal

pub returns : goal.returns
returns c = rw c.whole.ensures at c.hand_profile.ensures
