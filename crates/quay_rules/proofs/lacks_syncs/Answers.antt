-- `quay_rules::lacks_syncs` meets its contract: no samples, all of them sync, the first not sync, or groups by the numbers of stss.
-- Assumes nothing.
use native.Mathlib.Omega.{arith}
use mathlib.Core.Path.{sym, ◌∙◌}
use Rattle.quay_rules.proofs.Groups.{no_samples, all_sync, starts_late, by_numbers}
use Rattle.quay_rules.proofs.lacks_syncs.Goals as goal

pub returns-then-samples-eq0 : goal.returns-then-samples-eq0
returns-then-samples-eq0 c = let a = c.args in sym (no_samples a.stss.now a.samples c.if-samples-eq0.true)

pub returns-then-stss-eq0 : goal.returns-then-stss-eq0
returns-then-stss-eq0 c = let a = c.args in sym (all_sync a.stss.now a.samples (omega (arith, c.if-samples-eq0.false)) c.if-stss-eq0.true)

pub returns-then-number_in-ne1 : goal.returns-then-number_in-ne1
returns-then-number_in-ne1 c = sym (starts_late _ _ (omega (arith, c.if-samples-eq0.false)) c.if-stss-eq0.false c.requires c.after-numbers.ensures c.number_in.ensures c.if-number_in-ne1.true)

pub returns : goal.returns
returns c = c.has_long_group.ensures ∙ sym (by_numbers _ _ (omega (arith, c.if-samples-eq0.false)) c.if-stss-eq0.false c.requires c.after-numbers.ensures c.number_in.ensures c.if-number_in-ne1.false)
