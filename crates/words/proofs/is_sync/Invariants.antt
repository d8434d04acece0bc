-- `words::is_sync` meets its contract: the number is listed among those not yet read exactly if it is listed.
-- Assumes nothing.
use Rattle.std.specs.Slice.Iter.{chunks_exact_rest, chunks_exact_size}
use mathlib.Core.Path.{◌≡◌}
use Rattle.words.specs.Words.{words_in, listed, is_sync}
use Rattle.words.proofs.is_sync.Given as goal

abbrev pub invariant-loop-entry : goal.invariant-loop-entry
invariant-loop-entry l = (chunks_exact_size l.entry-iterator ≡ 4) × (listed l.number (words_in (chunks_exact_rest l.entry-iterator)) ≡ is_sync l.stss l.number)
