-- `stretch::tables::asked_of` meets its contract: samples whose pairs fit, or 15.
-- Assumes nothing.
use Rattle.refusals.proofs.Numbers.{passed}
use Rattle.stretch.proofs.Saying.{not_asked, asked_fits, asked_too_large}
use Rattle.stretch.proofs.tables.asked_of.Goals as goal

pub returns-then-pairs_fit : goal.returns-then-pairs_fit
returns-then-pairs_fit c = asked_fits _ _ _ _ _ _ _ _ _ c.span_of.ensures _ c.in_ok-span.was _ c.pairs_fit.ensures c.if-pairs_fit.true

pub returns-in_err-span : goal.returns-in_err-span
returns-in_err-span c = rw (passed c.from_residual.result _ c.from_residual.ensures.1) (not_asked _ _ _ _ _ _ _ _ _ c.span_of.ensures _ c.in_err-span.was)

pub returns : goal.returns
returns c = asked_too_large _ _ _ _ _ _ _ _ _ c.span_of.ensures _ c.in_ok-span.was _ c.pairs_fit.ensures c.if-pairs_fit.false
