-- `leb128::number::ended` meets its contract, by the cases of `joined`: a number of one group, a byte too many, a last group above 0.
-- Assumes nothing.
use borrow.Author.Tests.{eq-eqb, ne_eqb}
use Rattle.leb128.specs.Joining.{joined}
use Rattle.leb128.proofs.number.ended.Goals as goal
use Rattle.leb128.proofs.number.ended.Goals.{else-p-at-via-then-p-at+else-b-eq0, else-p-at-via-else-p-at}

pub returns-then-b-eq0 : goal.returns-then-b-eq0
unfolding joined
returns-then-b-eq0 c = rw (ne_eqb _ _ c.if-p-at.true, eq-eqb _ _ c.if-b-eq0.true)

pub returns : goal.returns
unfolding joined
returns c = let e = c.from.ensures in elim c.else-p-at.branch [
  | else-p-at-via-then-p-at+else-b-eq0 w ↦ rw (ne_eqb _ _ w.if-p-at.true, ne_eqb _ _ w.if-b-eq0.false, e)
  | else-p-at-via-else-p-at w ↦ rw (eq-eqb _ _ w.if-p-at.false, e)
]
