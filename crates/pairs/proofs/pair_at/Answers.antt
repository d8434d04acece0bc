-- `pairs::pair_at` meets its contract: the samples of the chunk that are asked for, and those before them in it.
-- Assumes nothing.
use Rattle.pairs.proofs.Walking.{pair_made, offset_fits}
use Rattle.pairs.proofs.pair_at.Goals as goal

pub overflow_add-result : goal.overflow_add-result
overflow_add-result c = record { fits = offset_fits _ _ _ _ _ _ _ _ _ c.max-first.ensures c.bytes_before-before.ensures.0 c.chunk_offset.ensures c.requires.1 }

pub returns : goal.returns
returns c = pair_made _ _ _ _ _ _ _ _ _ _ _ c.min-end.ensures c.max-first.ensures c.bytes_before-before.ensures.0 c.bytes_between.ensures.0 c.chunk_offset.ensures
