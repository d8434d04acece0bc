-- `top_level::Walk::end` meets its contract: the test that led to a return says which case holds.
-- Assumes nothing.
use borrow.Author.Tests.{eq-eqb, ne_eqb}
use Rattle.top_level.specs.Steps.{ended}
use Rattle.top_level.proofs.Walk.end.Goals as goal

pub returns-then-self-eq1 : goal.returns-then-self-eq1
unfolding ended
returns-then-self-eq1 c = simp (eq-eqb _ _ c.if-self-eq1.true)

pub returns-else-self-eq1 : goal.returns-else-self-eq1
unfolding ended
returns-else-self-eq1 c = simp (ne_eqb _ _ c.if-self-eq1.false)
