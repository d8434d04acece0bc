-- `sample_index::index_into` meets its contract: the checkpoints of the three tables, one after the other.
-- Assumes nothing.
use native.Mathlib.Omega.{arith}
use Rattle.sample_index.proofs.Filled.{index_short, index_put}
use Rattle.chunk_lookups.proofs.put_checkpoints.Reads as put-checkpoints-reads'
use Rattle.sample_index.proofs.index_into.Goals as goal

pub returns-then-room-count : goal.returns-then-room-count
returns-then-room-count c = index_short _ _ _ (omega (arith, c.if-room-count.true, c.checkpoints_of-count.ensures.0))

pub returns : goal.returns
returns c =
    index_put _ c.args.h _ _ _ _ _ _ _ c.checkpoints_of-count.result c.checkpoints_of-count.ensures.0 (omega (arith, c.if-room-count.false, c.checkpoints_of-count.ensures.0))
    c.part_of.ensures c.part_of-2.ensures c.part_of-3.ensures c.put_checkpoints.ensures c.put_checkpoints-2.ensures c.put_checkpoints-3.ensures
