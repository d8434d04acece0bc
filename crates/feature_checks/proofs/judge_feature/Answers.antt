-- `feature_checks::judge_feature` meets its contract: a record of another code, of one part alone, or one that is judged.
-- Assumes nothing.
use mathlib.Core.Path.{sym, ◌∙◌}
use Rattle.feature_checks.proofs.Judging.{some_bound, other_record, part_record, judged_record}
use borrow.Author.Rules.{rules}
use Rattle.feature_checks.proofs.judge_feature.Goals as goal

pub returns-then-i-ge6 : goal.returns-then-i-ge6
returns-then-i-ge6 c =
    let u = c.u32_at-code.ensures in
    record { fault = sym (other_record _ _ _ _ (rw u at c.code_index-i.ensures) c.if-i-ge6.true); bounds = c.requires.are_bounds }

pub returns-then-not-is_universal : goal.returns-then-not-is_universal
returns-then-not-is_universal c = record { fault = sym (part_record _ _ _ (sym c.is_universal.ensures ∙ c.if-not-is_universal.true)); bounds = c.requires.are_bounds }

pub overflow_sub-of : goal.overflow_sub-of
overflow_sub-of c = let h = some_bound _ _ _ _ c.with_bound-all.ensures.here in search rules

pub returns : goal.returns
returns c =
    let u = c.u32_at-code.ensures in
    let f = judged_record _ _ _ _ (rw u at c.code_index-i.ensures) _ _ _ u c.u32_at-value.ensures (search rules) c.if-i-ge6.false
    (sym c.is_universal.ensures ∙ c.if-not-is_universal.false) c.with_bound-all.ensures.here in
    record { fault = c.is_below.ensures ∙ f; bounds = c.with_bound-all.ensures.bounds }
