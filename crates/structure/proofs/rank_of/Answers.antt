-- `structure::rank_of` meets its contract: the test says which case holds.
-- Assumes nothing.
use borrow.Author.Tests.{eq-eqb, ne_eqb}
use Rattle.structure.specs.Rows.{rank}
use Rattle.structure.proofs.rank_of.Goals as goal

pub returns-then-n-eq19 : goal.returns-then-n-eq19
unfolding rank
returns-then-n-eq19 c = simp (eq-eqb _ _ c.if-n-eq19.true)

pub returns-else-n-eq19 : goal.returns-else-n-eq19
unfolding rank
returns-else-n-eq19 c = simp (ne_eqb _ _ c.if-n-eq19.false)
