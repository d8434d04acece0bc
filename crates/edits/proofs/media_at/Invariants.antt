-- `edits::media_at` meets its contract: the rest of the time falls in the rest of the entries as the time falls in all of them.
-- Assumes nothing.
use Rattle.std.specs.Slice.Iter.{chunks_exact_rest, chunks_exact_size}
use mathlib.Core.Path.{◌≡◌}
use Rattle.edits.specs.Edits.{edits_in, map_in, media_at}
use Rattle.edits.proofs.media_at.Given as goal

abbrev pub invariant-loop-entry : goal.invariant-loop-entry
invariant-loop-entry l = (chunks_exact_size l.entry-iterator ≡ 12) × (map_in l.scale l.movie l.total (edits_in (chunks_exact_rest l.entry-iterator)) l.rest ≡ media_at l.scale l.movie l.total l.elst (record { 0 = l.time }))
