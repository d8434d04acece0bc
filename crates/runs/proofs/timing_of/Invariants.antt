-- `runs::timing_of` meets its contract: the search for the index stands before what the runs not yet read expand to.
-- Assumes nothing.
use mathlib.Core.Path.{◌≡◌}
use Rattle.std.specs.Slice.Iter.{chunks_exact_rest, chunks_exact_size}
use Rattle.lists.specs.Lists.{expand}
use Rattle.lists.proofs.Laws.{Search}
use Rattle.runs.specs.Runs.{runs_in, per_sample}
use Rattle.runs.proofs.timing_of.Given as goal

abbrev pub invariant-loop-entry : goal.invariant-loop-entry
invariant-loop-entry l = (chunks_exact_size l.entry-iterator ≡ 8) × Search 4294967295 (per_sample l.stts) (expand (runs_in (chunks_exact_rest l.entry-iterator))) l.index l.skip l.start
