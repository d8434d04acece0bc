-- `shape::is_too_long` meets its contract: the tests that led to a return say which case holds.
-- Assumes nothing.
use lib.ListN.{length}
use Rattle.std.proofs.lemmas.Bool.{not-true, not-false}
use borrow.Author.Tests.{lt-ltb, le-ltb}
use Rattle.shape.specs.Refusals.{file_too_long}
use Rattle.shape.proofs.is_too_long.Goals as goal

pub returns-then-lent-gt-MOST_LENT : goal.returns-then-lent-gt-MOST_LENT
unfolding file_too_long
returns-then-lent-gt-MOST_LENT c = simp (lt-ltb 2147483647 (length c.args.lent.now) c.if-lent-gt-MOST_LENT.true)

pub returns-then-not-source : goal.returns-then-not-source
unfolding file_too_long
returns-then-not-source c = simp (le-ltb _ _ c.if-lent-gt-MOST_LENT.false, not-true c.args.source.alone c.if-not-source.true)

pub either-requires : goal.either-requires
either-requires c = tt

pub returns : goal.returns
unfolding file_too_long
returns c = simp (le-ltb _ _ c.if-lent-gt-MOST_LENT.false, not-false c.args.source.alone c.if-not-source.false) c.either.ensures
