-- `places::trak::is_one_of` meets its contract: each test is the one of the contract.
-- Assumes nothing.
use borrow.Author.Tests.{eq-eqb, ne_eqb}
use Rattle.places.proofs.trak.is_one_of.Goals as goal

pub returns-then-kind-a : goal.returns-then-kind-a
returns-then-kind-a c = rw (eq-eqb _ _ c.if-kind-a.true)

pub returns-then-kind-b : goal.returns-then-kind-b
returns-then-kind-b c = rw (ne_eqb _ _ c.if-kind-a.false, eq-eqb _ _ c.if-kind-b.true)

pub returns : goal.returns
returns c = rw (ne_eqb _ _ c.if-kind-a.false, ne_eqb _ _ c.if-kind-b.false)
