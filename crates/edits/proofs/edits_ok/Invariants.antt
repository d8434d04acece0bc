-- `edits::edits_ok` meets its contract: what the rest says is what the whole list says.
-- Assumes nothing.
use Rattle.std.specs.Slice.Iter.{chunks_exact_rest, chunks_exact_size}
use mathlib.Core.Path.{◌≡◌}
use Rattle.edits.specs.Edits.{edits_in, all_ok, edits_ok}
use Rattle.edits.proofs.edits_ok.Given as goal

abbrev pub invariant-loop-entry : goal.invariant-loop-entry
invariant-loop-entry l = (chunks_exact_size l.entry-iterator ≡ 12) × (all_ok l.scale l.movie l.total (edits_in (chunks_exact_rest l.entry-iterator)) ≡ edits_ok l.scale l.movie l.total l.elst)
