-- `slip_writing::write_slip_of` meets its contract: the head has the stretch's numbers, and the pairs are its pairs.
-- Assumes nothing.
use native.Mathlib.Omega.{arith}
use Rattle.refusals.proofs.Numbers.{passed}
use Rattle.movie.proofs.Refused.{code_err}
use Rattle.slip_writing.proofs.Slipping.{no_slip, slip_put}
use Rattle.spans.proofs.Spanning.{pairs_few}
use Rattle.stretch.proofs.Spanning.{span_clear, in_span, span_body, span_parts, span_usable, span_spans, span_order}
use Rattle.slip_writing.proofs.write_slip_of.Goals as goal

pub returns-in_err-found : goal.returns-in_err-found
returns-in_err-found c = rw (passed c.from_residual.result _ c.from_residual.ensures.1) (no_slip _ _ _ _ _ _ _ _ c.strictly.ensures (code_err _ _ _ c.span_asked.ensures.refusal c.in_err-found.was))

pub count_in-pairs-requires : goal.count_in-pairs-requires
count_in-pairs-requires c =
    let h = c.span_asked.ensures in
    let q = c.in_ok-found.was in
    let e = c.part_of-body.ensures in
    (span_parts _ _ _ _ _ _ h _ q _ e, span_usable _ _ _ _ _ _ h _ q _ e)

pub scale_in-requires : goal.scale_in-requires
scale_in-requires c = span_parts _ _ _ _ _ _ c.span_asked.ensures _ c.in_ok-found.was _ c.part_of-body.ensures

pub head_of-head-requires : goal.head_of-head-requires
head_of-head-requires c =
    let u = span_usable _ _ _ _ _ _ c.span_asked.ensures _ c.in_ok-found.was _ c.part_of-body.ensures in
    omega (arith, c.count_in-pairs.ensures, pairs_few _ c.in_ok-found.found.span u)

pub put_slip-requires : goal.put_slip-requires
put_slip-requires c =
    let h = c.span_asked.ensures in
    let q = c.in_ok-found.was in
    let e = c.part_of-body.ensures in
    (span_parts _ _ _ _ _ _ h _ q _ e, span_usable _ _ _ _ _ _ h _ q _ e, span_order _ _ _ _ _ _ (in_span _ _ _ _ _ _ h _ q) (span_body _ _ _ _ _ _ h _ q _ e) _ (span_spans _ _ _ _ _ _ h _ q _ e), c.head_of-head.ensures.1)

pub returns : goal.returns
returns c =
    let h = c.span_asked.ensures in
    let q = c.in_ok-found.was in
    let e = c.part_of-body.ensures in
    slip_put _ _ _ _ _ _ _ _ c.strictly.ensures (span_clear _ _ _ _ _ _ h _ q) (span_body _ _ _ _ _ _ h _ q _ e) _ (span_spans _ _ _ _ _ _ h _ q _ e) _ _ c.count_in-pairs.ensures c.scale_in.ensures _ c.head_of-head.ensures.0 _ _ c.put_slip.ensures
