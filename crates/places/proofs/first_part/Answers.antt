-- `places::first_part` meets its contract: each test is the one of the definition.
-- Assumes nothing.
use borrow.Author.Tests.{eq-eqb, ne_eqb}
use Rattle.places.proofs.first_part.Goals as goal

pub returns-then-found-ne0 : goal.returns-then-found-ne0
returns-then-found-ne0 c = simp (ne_eqb _ _ c.if-found-ne0.true)

pub returns-then-kind-wanted : goal.returns-then-kind-wanted
returns-then-kind-wanted c = simp (eq-eqb _ _ c.if-found-ne0.false, eq-eqb _ _ c.if-kind-wanted.true)

pub returns : goal.returns
returns c = simp (eq-eqb _ _ c.if-found-ne0.false, ne_eqb _ _ c.if-kind-wanted.false)
