-- `chunks::locate` meets its contract: the ID of the chunk found is the cursor's, or there is no chunk.
-- Assumes nothing.
use Rattle.chunks.proofs.Finding.{finds, located_none, located_some}
use Rattle.chunks.proofs.locate.Goals as goal

pub returns-then-c-eq0 : goal.returns-then-c-eq0
returns-then-c-eq0 c = let f = c.seek-found in located_none f.result (finds f.ensures) c.if-c-eq0.true

pub returns-else-c-eq0 : goal.returns-else-c-eq0
returns-else-c-eq0 c = let f = c.seek-found in located_some f.result (finds f.ensures) c.if-c-eq0.false
