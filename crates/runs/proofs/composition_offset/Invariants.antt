-- `runs::composition_offset` meets its contract: the number of the sample is the one at `ahead` of what the runs not yet read expand to; the sign is read last.
-- Assumes nothing.
use Rattle.std.specs.Slice.Iter.{chunks_exact_rest, chunks_exact_size}
use mathlib.Core.Path.{◌≡◌}
use lib.ListN.{get_or}
use Rattle.lists.specs.Lists.{expand}
use Rattle.runs.specs.Runs.{runs_in, per_sample}
use Rattle.runs.proofs.composition_offset.Given as goal

abbrev pub invariant-loop-entry : goal.invariant-loop-entry
invariant-loop-entry l = (chunks_exact_size l.entry-iterator ≡ 8) × (get_or (expand (runs_in (chunks_exact_rest l.entry-iterator))) l.ahead 0 ≡ get_or (per_sample l.ctts) l.index 0)
