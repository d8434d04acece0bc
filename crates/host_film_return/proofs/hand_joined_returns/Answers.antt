-- `host_film_return::hand_joined_returns` meets its contract.
-- Assumes nothing.
use Rattle.host_film_return.proofs.Filed.{joins_too_few, too_few_more, join_handed}
use Rattle.host_film_return.proofs.hand_joined_returns.Goals as goal

pub returns-then-totals-lt-NUMBERS : goal.returns-then-totals-lt-NUMBERS
returns-then-totals-lt-NUMBERS c = joins_too_few _ _ c.if-totals-lt-NUMBERS.true

pub returns-then-more-lt-NUMBERS : goal.returns-then-more-lt-NUMBERS
returns-then-more-lt-NUMBERS c = too_few_more _ _ c.if-more-lt-NUMBERS.true

pub join_returns-requires : goal.join_returns-requires
join_returns-requires c = tt

pub returns : goal.returns
returns c = join_handed _ _ c.if-totals-lt-NUMBERS.false c.if-more-lt-NUMBERS.false _ _ c.return_in-before.ensures c.return_in.ensures _ c.join_returns.ensures _ _ c.put_filed.ensures
