-- `capi::compacting::chaldoref_compact` meets its contract: the source of its call is that of a whole file.
-- Assumes nothing.
use Rattle.capi.proofs.compacting.chaldoref_compact.Goals as goal

pub returns : goal.returns
returns c = rw c.whole.ensures at c.write_compact_moov.ensures
