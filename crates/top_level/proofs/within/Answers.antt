-- `top_level::within` meets its contract: the tests that led to a return say which case holds.
-- Assumes nothing.
use borrow.Author.Tests.{le-leb, lt-leb}
use Rattle.top_level.specs.Steps.{within}
use Rattle.top_level.proofs.within.Goals as goal

pub returns-then-z-least : goal.returns-then-z-least
unfolding within
returns-then-z-least c = simp (lt-leb _ _ c.if-z-least.true)

pub returns-then-z-rest : goal.returns-then-z-rest
unfolding within
returns-then-z-rest c = simp (le-leb _ _ c.if-z-least.false, le-leb _ _ c.if-z-rest.true)

pub returns-else-z-rest : goal.returns-else-z-rest
unfolding within
returns-else-z-rest c = simp (le-leb _ _ c.if-z-least.false, lt-leb _ _ c.if-z-rest.false)
