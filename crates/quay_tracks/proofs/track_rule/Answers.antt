-- `quay_tracks::track_rule` meets its contract: each test is the condition of a rule.
-- Assumes nothing.
use mathlib.Core.Path.{sym, ◌∙◌}
use Rattle.quay_tracks.proofs.Rules.{rules_are, holds, passed}
use Rattle.quay_tracks.proofs.track_rule.Goals as goal

pub returns-then-has_many_edits : goal.returns-then-has_many_edits
returns-then-has_many_edits c = holds 2 _ c.has_many_edits.ensures c.if-has_many_edits.true ∙ sym (rules_are _ _)

pub returns-then-has_other_descriptions : goal.returns-then-has_other_descriptions
returns-then-has_other_descriptions c = passed 2 _ c.has_many_edits.ensures c.if-has_many_edits.false (holds 3 _ c.has_other_descriptions.ensures c.if-has_other_descriptions.true) ∙ sym (rules_are _ _)

pub returns-then-has_ctts : goal.returns-then-has_ctts
returns-then-has_ctts c = passed 2 _ c.has_many_edits.ensures c.if-has_many_edits.false (passed 3 _ c.has_other_descriptions.ensures c.if-has_other_descriptions.false (holds 4 _ c.has_ctts.ensures c.if-has_ctts.true)) ∙ sym (rules_are _ _)

pub returns-then-has_few_syncs : goal.returns-then-has_few_syncs
returns-then-has_few_syncs c = passed 2 _ c.has_many_edits.ensures c.if-has_many_edits.false (passed 3 _ c.has_other_descriptions.ensures c.if-has_other_descriptions.false (passed 4 _ c.has_ctts.ensures c.if-has_ctts.false (holds 5 _ c.has_few_syncs.ensures c.if-has_few_syncs.true))) ∙ sym (rules_are _ _)

pub returns : goal.returns
returns c = passed 2 _ c.has_many_edits.ensures c.if-has_many_edits.false (passed 3 _ c.has_other_descriptions.ensures c.if-has_other_descriptions.false (passed 4 _ c.has_ctts.ensures c.if-has_ctts.false (passed 5 _ c.has_few_syncs.ensures c.if-has_few_syncs.false c.table_rule.ensures))) ∙ sym (rules_are _ _)
