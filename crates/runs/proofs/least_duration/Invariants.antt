-- `runs::least_duration` meets its contract: the least so far and that of what the rest expands to make that of all.
-- Assumes nothing.
use Rattle.std.specs.Slice.Iter.{chunks_exact_rest, chunks_exact_size}
use mathlib.Core.Path.{◌≡◌}
use Rattle.lists.specs.Lists.{expand}
use Rattle.runs.specs.Runs.{runs_in, per_sample, lesser_of, least_of}
use Rattle.runs.proofs.least_duration.Given as goal

abbrev pub invariant-loop-entry : goal.invariant-loop-entry
invariant-loop-entry l = (chunks_exact_size l.entry-iterator ≡ 8) × (lesser_of l.least (least_of (expand (runs_in (chunks_exact_rest l.entry-iterator)))) ≡ least_of (per_sample l.stts))
