-- `capi::compacting::chaldoref_moov_compact` meets its contract: the source of its call is that of a moov alone.
-- Assumes nothing.
use Rattle.capi.proofs.compacting.chaldoref_moov_compact.Goals as goal

pub returns : goal.returns
returns c = rw c.of_moov.ensures at c.write_compact_moov.ensures
