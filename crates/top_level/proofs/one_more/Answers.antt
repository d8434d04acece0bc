-- `top_level::one_more` meets its contract: the test that led to a return says which case holds.
-- Assumes nothing.
use borrow.Author.Tests.{eq-eqb, ne_eqb}
use Rattle.top_level.specs.Steps.{one_more}
use Rattle.top_level.proofs.one_more.Goals as goal

pub returns-then-moovs-eq0 : goal.returns-then-moovs-eq0
unfolding one_more
returns-then-moovs-eq0 c = simp (eq-eqb _ _ c.if-moovs-eq0.true)

pub returns-else-moovs-eq0 : goal.returns-else-moovs-eq0
unfolding one_more
returns-else-moovs-eq0 c = simp (ne_eqb _ _ c.if-moovs-eq0.false)
