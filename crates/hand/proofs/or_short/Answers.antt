-- `hand::or_short` meets its contract.
-- Assumes nothing.
use borrow.Author.Tests.{eq-eqb, ne_eqb}
use Rattle.structure.specs.Rows.{or_else}
use Rattle.hand.proofs.or_short.Goals as goal

pub returns-then-refusal-ne0 : goal.returns-then-refusal-ne0
unfolding or_else
returns-then-refusal-ne0 c = rw (ne_eqb _ _ c.if-refusal-ne0.true)

pub returns-else-refusal-ne0 : goal.returns-else-refusal-ne0
unfolding or_else
returns-else-refusal-ne0 c = rw (eq-eqb _ _ c.if-refusal-ne0.false)
