-- `chunk_order::may_follow` meets its contract: what is past the offset before it is compared with the bytes there.
-- Assumes nothing.
use Rattle.chunk_order.proofs.Orders.{not_past, past_end}
use Rattle.chunk_order.proofs.may_follow.Goals as goal

pub returns-then-next-offset : goal.returns-then-next-offset
returns-then-next-offset c = not_past _ _ _ _ c.if-first.false c.if-next-offset.true

pub returns : goal.returns
returns c = past_end _ _ _ _ c.if-first.false c.if-next-offset.false
