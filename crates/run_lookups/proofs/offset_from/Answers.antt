-- `run_lookups::offset_from` meets its contract: the offset past the checkpoint.
-- Assumes nothing.
use Rattle.std.proofs.Common.{◌∙◌}
use Rattle.bigendian.proofs.Halves.{kept}
use Rattle.run_lookups.proofs.From.{found_in, offset_past, offset_early, offset_late}
use Rattle.run_lookups.proofs.offset_from.Goals as goal

pub returns-then-index-passed : goal.returns-then-index-passed
returns-then-index-passed c =
    let u = c.last_upto-i in
    let o = c.composition_offset in
    rw (kept o.result o.type_inv) (record {
      answer = offset_early _ _ _ _ u.result _ u.ensures.4 c.number_at-passed.ensures _ o.ensures.0 c.if-index-passed.true;
      right = λ cs. o.ensures.0;
      low = o.ensures.1;
    })

pub returns : goal.returns
returns c =
    let u = c.last_upto-i in
    let o = c.composition_offset-2 in
    let i = found_in u.result _ c.requires.0 u.ensures.1 in
    let a = c.args in
    let n = c.number_at-passed.ensures in
    let h = c.if-index-passed.false in
    let f = rw c.after.ensures at o.ensures.0 in
    rw (kept o.result o.type_inv) (record {
      answer = offset_late a.ctts.now a.points.now a.count a.index u.result _ u.ensures.4 n h _ f;
      right = λ cs. offset_past a.ctts.now u.result _ _ (n ∙ cs u.result i) h _ f;
      low = o.ensures.1;
    })
