-- `capi::filing::chaldoref_film_return` meets its contract: the source of its call is that of a whole file.
-- Assumes nothing.
use Rattle.capi.proofs.filing.chaldoref_film_return.Goals as goal

pub returns : goal.returns
returns c = rw c.whole.ensures at c.hand_film_return.ensures
