-- `host_fragments::bit` meets its contract.
-- Assumes nothing.
use Rattle.fragments.specs.Fragments.{bit}
use Rattle.host_fragments.proofs.bit.Goals as goal

pub returns-then-b : goal.returns-then-b
unfolding bit
returns-then-b c = rw c.if-b.true

pub returns-else-b : goal.returns-else-b
unfolding bit
returns-else-b c = rw c.if-b.false
