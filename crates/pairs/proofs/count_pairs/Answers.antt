-- `pairs::count_pairs` meets its contract: the chunks that begin by the last sample, without those before the first sample's.
-- Assumes nothing.
use Rattle.chunks.proofs.Finding.{finds}
use Rattle.pairs.proofs.Counting.{count_none, count_some, count_over}
use Rattle.pairs.proofs.count_pairs.Goals as goal

pub returns-then-stop-eq0 : goal.returns-then-stop-eq0
returns-then-stop-eq0 c = count_none _ _ _ _ c.if-stop-eq0.true

pub returns-then-begun-skipped : goal.returns-then-begun-skipped
returns-then-begun-skipped c = count_over _ _ _ _ c.if-stop-eq0.false c.chunks_to-begun.ensures (finds c.seek-found.ensures).place c.if-begun-skipped.true

pub returns : goal.returns
returns c = count_some _ _ _ _ c.if-stop-eq0.false c.chunks_to-begun.ensures (finds c.seek-found.ensures).place
