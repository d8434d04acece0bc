-- `runs::count_and_total` meets its contract: what the runs not yet read must count decides what all of them must; what is added and what they expand to make
-- up all, and the sum so far is at most the largest number for each sample counted.
-- Assumes nothing.
use Rattle.std.specs.Slice.Iter.{chunks_exact_rest, chunks_exact_size}
use Prim.Native.Nat.{◌+◌, ◌*◌, ◌-◌, ◌≤◌}
use mathlib.Core.Path.{◌≡◌}
use Rattle.lists.specs.Lists.{sum, expand}
use Rattle.runs.specs.Runs.{runs_in, runs_of, per_sample}
use Rattle.runs.specs.Computed.{counting}
use Rattle.runs.proofs.count_and_total.Given as goal

abbrev pub invariant-loop-entry : goal.invariant-loop-entry
invariant-loop-entry l = (chunks_exact_size l.entry-iterator ≡ 8) × (counting l.rest (runs_in (chunks_exact_rest l.entry-iterator)) ≡ counting l.samples (runs_of l.table)) × (l.total + sum (expand (runs_in (chunks_exact_rest l.entry-iterator))) ≡ sum (per_sample l.table)) × (l.rest ≤ l.samples) × (l.total ≤ (l.samples - l.rest) * 4294967295)
