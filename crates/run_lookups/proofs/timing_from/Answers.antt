-- `run_lookups::timing_from` meets its contract: the times past the checkpoint, with what is passed.
-- Assumes nothing.
use Rattle.std.proofs.Common.{◌∙◌}
use Rattle.run_lookups.proofs.From.{found_in, timing_past, timing_early, timing_late}
use Rattle.run_lookups.proofs.timing_from.Goals as goal

pub returns-then-index-passed : goal.returns-then-index-passed
returns-then-index-passed c =
    let u = c.last_upto-i in
    record {
      answer = timing_early _ _ _ _ u.result _ u.ensures.4 c.number_at-passed.ensures _ c.timing_of.ensures c.if-index-passed.true;
      right = λ cs ts b. c.timing_of.ensures;
    }

pub returns : goal.returns
returns c =
    let u = c.last_upto-i in
    let a = c.args in
    let i = found_in u.result _ c.requires.0 u.ensures.1 in
    let n = c.number_at-passed.ensures in
    let h = c.if-index-passed.false in
    let m = c.number_at.ensures in
    let f = rw c.after.ensures at c.timing_of-found.ensures in
    record {
      answer = timing_late a.stts.now a.points.now a.count a.index u.result _ u.ensures.4 n h _ m _ f _ c.wrapping_add_u64.ensures.value;
      right = λ cs ts b. timing_past a.stts.now u.result _ _ (n ∙ cs u.result i) h _ (m ∙ ts u.result i) b _ f _ c.wrapping_add_u64.ensures.value;
    }
