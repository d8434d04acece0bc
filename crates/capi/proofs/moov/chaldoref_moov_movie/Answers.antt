-- `capi::moov::chaldoref_moov_movie` meets its contract: the source of its call is that of a moov alone.
-- Assumes nothing.
use Rattle.capi.proofs.moov.chaldoref_moov_movie.Goals as goal

pub returns : goal.returns
returns c = rw c.of_moov.ensures at c.hand_movie.ensures
