-- `pair_bytes::is_wide` meets its contract.
-- Assumes nothing.
use Rattle.pair_bytes.proofs.Streaming.{wide_first, wide_second}
use Rattle.pair_bytes.proofs.is_wide.Goals as goal

pub returns-then-q-ge4294967296 : goal.returns-then-q-ge4294967296
returns-then-q-ge4294967296 c = wide_first _ c.if-q-ge4294967296.true

pub returns : goal.returns
returns c = wide_second c.args.q c.if-q-ge4294967296.false
