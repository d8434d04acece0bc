-- `places::moov::with_trak` meets its contract: the test is the one of the definition.
-- Assumes nothing.
use borrow.Author.Tests.{le-leb, lt-leb}
use Rattle.places.proofs.moov.with_trak.Goals as goal

pub returns-then-n-ge16 : goal.returns-then-n-ge16
returns-then-n-ge16 c = rw (le-leb 16 c.args.f.count c.if-n-ge16.true)

pub returns : goal.returns
returns c = rw (lt-leb 16 c.args.f.count c.if-n-ge16.false)
