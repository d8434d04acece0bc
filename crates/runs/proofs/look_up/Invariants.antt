-- `runs::look_up` meets its contract: the walk over the durations stands before what the runs not yet read expand to, the entries passed are counted,
-- and each byte not yet read leaves room for 4,294,967,295 samples.
-- Assumes nothing.
use mathlib.Core.Path.{◌≡◌}
use Rattle.std.specs.Slice.Iter.{chunks_exact_rest, chunks_exact_size}
use Prim.Native.Nat.{◌+◌, ◌*◌, ◌≤◌}
use lib.ListN.{length}
use Rattle.lists.specs.Lists.{expand}
use Rattle.lists.proofs.Laws.{Walk}
use Rattle.runs.specs.Runs.{runs_in, runs_of}
use Rattle.runs.proofs.Entries.{Passed}
use Rattle.runs.proofs.look_up.Given as goal

abbrev pub invariant-loop-entry : goal.invariant-loop-entry
invariant-loop-entry l =
    (chunks_exact_size l.entry-iterator ≡ 8) × (l.passed + length (chunks_exact_rest l.entry-iterator) * 4294967295 ≤ length l.stts * 4294967295) × Walk (expand (runs_of l.stts)) (expand (runs_in (chunks_exact_rest l.entry-iterator))) l.t l.passed l.rest × (l.rest ≤ l.t) ×
    (l.entries * 8 + length (chunks_exact_rest l.entry-iterator) ≤ length l.stts) × Passed (runs_of l.stts) (runs_in (chunks_exact_rest l.entry-iterator)) l.entries l.passed
