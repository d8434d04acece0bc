-- `pairs::chunks_to` meets its contract, by what `seek` finds: a chunk, or none where all lie before.
-- Assumes nothing.
use Rattle.pairs.proofs.Counting.{found_none, found_some, found_fits}
use Rattle.pairs.proofs.chunks_to.Goals as goal

pub returns-then-c-eq0 : goal.returns-then-c-eq0
returns-then-c-eq0 c = found_none _ _ _ _ c.seek-found.ensures c.if-c-eq0.true

pub overflow_add-result : goal.overflow_add-result
overflow_add-result c = record { fits = found_fits _ _ _ _ c.seek-found.ensures c.if-c-eq0.false c.requires c.ranges.chunks.fits (λ i. (c.type_inv.stsc i).fits) }

pub returns : goal.returns
returns c = found_some _ _ _ _ c.seek-found.ensures c.if-c-eq0.false
