-- `quay_tracks::table_rule` meets its contract: each test is the condition of a rule.
-- Assumes nothing.
use mathlib.Core.Path.{refl, ◌∙◌}
use Rattle.quay_tracks.proofs.Rules.{sizes_by, durations_by, order_by, dealt_fits, frames_by, holds, passed}
use Rattle.quay_tracks.proofs.table_rule.Goals as goal

pub returns-then-has_zero_size : goal.returns-then-has_zero_size
returns-then-has_zero_size c = holds 6 _ (sizes_by _ _ _ (c.part_of-stsz.ensures ∙ c.requires.0.stsz) c.has_zero_size.ensures) c.if-has_zero_size.true

pub returns-then-has_zero_duration : goal.returns-then-has_zero_duration
returns-then-has_zero_duration c = passed 6 _ (sizes_by _ _ _ (c.part_of-stsz.ensures ∙ c.requires.0.stsz) c.has_zero_size.ensures) c.if-has_zero_size.false (holds 7 _ (durations_by _ _ _ (c.part_of.ensures ∙ c.requires.0.stts) c.has_zero_duration.ensures) c.if-has_zero_duration.true)

pub is_disordered-requires : goal.is_disordered-requires
is_disordered-requires c = dealt_fits _ _ _ _ c.requires.1 (c.part_of-2.ensures ∙ c.requires.0.stsc) (c.part_of-3.ensures ∙ c.requires.0.offsets)

pub returns-then-is_disordered : goal.returns-then-is_disordered
returns-then-is_disordered c = passed 6 _ (sizes_by _ _ _ (c.part_of-stsz.ensures ∙ c.requires.0.stsz) c.has_zero_size.ensures) c.if-has_zero_size.false (passed 7 _ (durations_by _ _ _ (c.part_of.ensures ∙ c.requires.0.stts) c.has_zero_duration.ensures) c.if-has_zero_duration.false (holds 8 _ (order_by _ _ _ _ _ (c.part_of-2.ensures ∙ c.requires.0.stsc) (c.part_of-stsz.ensures ∙ c.requires.0.stsz) (c.part_of-3.ensures ∙ c.requires.0.offsets) c.is_disordered.ensures) c.if-is_disordered.true))

pub returns-then-is_too_fast : goal.returns-then-is_too_fast
returns-then-is_too_fast c = passed 6 _ (sizes_by _ _ _ (c.part_of-stsz.ensures ∙ c.requires.0.stsz) c.has_zero_size.ensures) c.if-has_zero_size.false (passed 7 _ (durations_by _ _ _ (c.part_of.ensures ∙ c.requires.0.stts) c.has_zero_duration.ensures) c.if-has_zero_duration.false (passed 8 _ (order_by _ _ _ _ _ (c.part_of-2.ensures ∙ c.requires.0.stsc) (c.part_of-stsz.ensures ∙ c.requires.0.stsz) (c.part_of-3.ensures ∙ c.requires.0.offsets) c.is_disordered.ensures) c.if-is_disordered.false (holds 9 _ (frames_by _ _ _ _ c.feature_of.ensures c.is_too_fast.ensures) c.if-is_too_fast.true)))

pub returns : goal.returns
returns c = passed 6 _ (sizes_by _ _ _ (c.part_of-stsz.ensures ∙ c.requires.0.stsz) c.has_zero_size.ensures) c.if-has_zero_size.false (passed 7 _ (durations_by _ _ _ (c.part_of.ensures ∙ c.requires.0.stts) c.has_zero_duration.ensures) c.if-has_zero_duration.false (passed 8 _ (order_by _ _ _ _ _ (c.part_of-2.ensures ∙ c.requires.0.stsc) (c.part_of-stsz.ensures ∙ c.requires.0.stsz) (c.part_of-3.ensures ∙ c.requires.0.offsets) c.is_disordered.ensures) c.if-is_disordered.false (passed 9 _ (frames_by _ _ _ _ c.feature_of.ensures c.is_too_fast.ensures) c.if-is_too_fast.false refl)))
