-- `hand::hand` meets its contract.
-- Assumes nothing.
use Rattle.hand.proofs.Handing.{short, all}
use Rattle.hand.proofs.hand.Goals as goal

pub returns-then-places-n : goal.returns-then-places-n
returns-then-places-n g c = short _ _ _ _ c.if-places-n.true c.or_short.ensures

pub returns : goal.returns
returns g c = all _ _ _ _ c.if-places-n.false c.copy_from_slice.ensures.after
