-- `track::may_count` meets its contract, by whether the table is there.
-- Assumes nothing.
use borrow.Author.Tests.{eq-eqb, ne_eqb}
use Rattle.track.proofs.may_count.Goals as goal

pub returns-then-ctts-eq0 : goal.returns-then-ctts-eq0
returns-then-ctts-eq0 c = rw (eq-eqb _ _ c.if-ctts-eq0.true)

pub returns : goal.returns
returns c = rw (ne_eqb _ _ c.if-ctts-eq0.false) c.counts.ensures
