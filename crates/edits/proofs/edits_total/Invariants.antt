-- `edits::edits_total` meets its contract: what is added and the durations of the rest make up all, and the sum so far fits 32 bits.
-- Assumes nothing.
use Rattle.std.specs.Slice.Iter.{chunks_exact_rest, chunks_exact_size}
use Prim.Native.Nat.{◌+◌, ◌≤◌}
use mathlib.Core.Path.{◌≡◌}
use Rattle.lists.specs.Lists.{sum}
use Rattle.edits.specs.Edits.{edits_in, durations_of, edit_total}
use Rattle.edits.proofs.edits_total.Given as goal

abbrev pub invariant-loop-entry : goal.invariant-loop-entry
invariant-loop-entry l = (chunks_exact_size l.entry-iterator ≡ 12) × (l.total ≤ 4294967295) × (l.total + sum (durations_of (edits_in (chunks_exact_rest l.entry-iterator))) ≡ edit_total l.elst)
