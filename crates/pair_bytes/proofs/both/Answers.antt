-- `pair_bytes::both` meets its contract.
-- Assumes nothing.
use Rattle.pair_bytes.proofs.Streaming.{either_first, either_second}
use Rattle.pair_bytes.proofs.both.Goals as goal

pub returns-then-a : goal.returns-then-a
returns-then-a c = either_first _ _ _ c.if-a.true

pub returns : goal.returns
returns c = either_second _ _ _ c.if-a.false
