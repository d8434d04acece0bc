-- `averages::edits_added` meets its contract: what is added, and what the entries not yet read cover, is what all cover.
-- Assumes nothing.
use mathlib.Core.Path.{◌≡◌}
use Rattle.std.specs.Slice.Iter.{chunks_exact_rest, chunks_exact_size}
use Rattle.runs.specs.Runs.{per_sample}
use Rattle.words.specs.Words.{sizes}
use Rattle.edits.specs.Edits.{edits, edits_in}
use Rattle.averages.proofs.Covers.{Adding}
use Rattle.averages.proofs.edits_added.Given as goal

abbrev pub invariant-loop-entry : goal.invariant-loop-entry
invariant-loop-entry l = (chunks_exact_size l.entry-iterator ≡ 12) × Adding l.scale l.movie (per_sample l.stts) (sizes l.stsz) (edits l.elst) (edits_in (chunks_exact_rest l.entry-iterator)) l.bytes l.units
