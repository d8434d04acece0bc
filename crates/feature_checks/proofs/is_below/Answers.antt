-- `feature_checks::is_below` meets its contract: the tests are those of the definition.
-- Assumes nothing.
use borrow.Author.Tests.{ne_eqb, lt-ltb, le-ltb}
use Rattle.feature_checks.specs.Bounds.{is_below}
use Rattle.feature_checks.proofs.is_below.Goals as goal

pub returns-then-code-ne-TVSZ : goal.returns-then-code-ne-TVSZ
unfolding is_below
returns-then-code-ne-TVSZ c = rw (ne_eqb _ _ c.if-code-ne-TVSZ.true)

pub returns-then-value-bound : goal.returns-then-value-bound
unfolding is_below
returns-then-value-bound c = rw (c.if-code-ne-TVSZ.false, lt-ltb _ _ c.if-value-bound.true)

pub returns : goal.returns
unfolding is_below
returns c = rw (c.if-code-ne-TVSZ.false, le-ltb _ _ c.if-value-bound.false)
