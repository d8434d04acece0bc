-- `edits::within` meets its contract, by the test.
-- Assumes nothing.
use borrow.Author.Tests.{lt-ltb, le-ltb}
use Rattle.edits.proofs.within.Goals as goal

pub returns-then-place-total : goal.returns-then-place-total
returns-then-place-total c = rw (lt-ltb c.args.place c.args.total c.if-place-total.true)

pub returns : goal.returns
returns c = rw (le-ltb c.args.place c.args.total c.if-place-total.false)
