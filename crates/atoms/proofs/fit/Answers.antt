-- `atoms::fit` meets its contract: the tests that led to a return say which case holds.
-- Assumes nothing.
use borrow.Author.Tests.{le-leb, lt-leb}
use Rattle.atoms.specs.Pieces.{fitting}
use Rattle.atoms.proofs.fit.Goals as goal

pub returns-then-z-least : goal.returns-then-z-least
unfolding fitting
returns-then-z-least c = simp (lt-leb _ _ c.if-z-least.true)

pub returns-then-z-s : goal.returns-then-z-s
unfolding fitting
returns-then-z-s c = simp (le-leb _ _ c.if-z-least.false, le-leb _ _ c.if-z-s.true)

pub returns-else-z-s : goal.returns-else-z-s
unfolding fitting
returns-else-z-s c = simp (le-leb _ _ c.if-z-least.false, lt-leb _ _ c.if-z-s.false)
