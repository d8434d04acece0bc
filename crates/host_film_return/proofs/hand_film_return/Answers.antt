-- `host_film_return::hand_film_return` meets its contract.
-- Assumes nothing.
use Rattle.host_film_return.proofs.Filed.{too_few, film_handed}
use Rattle.host_film_return.proofs.hand_film_return.Goals as goal

pub returns-then-totals-lt-NUMBERS : goal.returns-then-totals-lt-NUMBERS
returns-then-totals-lt-NUMBERS c = too_few _ _ _ c.if-totals-lt-NUMBERS.true

pub add_film-requires : goal.add_film-requires
add_film-requires c = tt

pub returns : goal.returns
returns c = film_handed _ _ _ c.if-totals-lt-NUMBERS.false _ c.return_in-before.ensures _ c.add_film.ensures _ _ c.put_filed.ensures
