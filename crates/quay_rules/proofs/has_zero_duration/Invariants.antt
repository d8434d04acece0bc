-- `quay_rules::has_zero_duration` meets its contract: a 0 is among the durations of the runs not yet read exactly if it is among all.
-- Assumes nothing.
use Rattle.std.specs.Slice.Iter.{chunks_exact_rest, chunks_exact_size}
use mathlib.Core.Path.{◌≡◌}
use Rattle.lists.specs.Lists.{expand}
use Rattle.runs.specs.Runs.{runs_in, per_sample}
use Rattle.quay_rules.specs.Rules.{has_zero}
use Rattle.quay_rules.proofs.has_zero_duration.Given as goal

abbrev pub invariant-loop-entry : goal.invariant-loop-entry
invariant-loop-entry l = (chunks_exact_size l.entry-iterator ≡ 8) × (has_zero (expand (runs_in (chunks_exact_rest l.entry-iterator))) ≡ has_zero (per_sample l.stts))
