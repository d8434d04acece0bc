-- `runs::total_duration` meets its contract: what is added and what the rest expands to make up all, and the sum so far fits 32 bits.
-- Assumes nothing.
use Rattle.std.specs.Slice.Iter.{chunks_exact_rest, chunks_exact_size}
use Prim.Native.Nat.{◌+◌, ◌≤◌}
use mathlib.Core.Path.{◌≡◌}
use Rattle.lists.specs.Lists.{sum, expand}
use Rattle.runs.specs.Runs.{runs_in, per_sample}
use Rattle.runs.proofs.total_duration.Given as goal

abbrev pub invariant-loop-entry : goal.invariant-loop-entry
invariant-loop-entry l = (chunks_exact_size l.entry-iterator ≡ 8) × (l.total ≤ 4294967295) × (l.total + sum (expand (runs_in (chunks_exact_rest l.entry-iterator))) ≡ sum (per_sample l.stts))
