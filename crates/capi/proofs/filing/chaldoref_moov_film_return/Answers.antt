-- `capi::filing::chaldoref_moov_film_return` meets its contract: the source of its call is that of a moov alone.
-- Assumes nothing.
use Rattle.capi.proofs.filing.chaldoref_moov_film_return.Goals as goal

pub returns : goal.returns
returns c = rw c.of_moov.ensures at c.hand_film_return.ensures
