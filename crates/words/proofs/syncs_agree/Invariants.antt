-- `words::syncs_agree` meets its contract: whether the numbers not yet read rise after the last one read decides whether all do.
-- Assumes nothing.
use Rattle.std.specs.Slice.Iter.{chunks_exact_rest, chunks_exact_size}
use mathlib.Core.Path.{◌≡◌}
use Rattle.words.specs.Words.{words_in, strictly_rising, syncs_agree}
use Rattle.words.proofs.syncs_agree.Given as goal

abbrev pub invariant-loop-entry : goal.invariant-loop-entry
invariant-loop-entry l = (chunks_exact_size l.entry-iterator ≡ 4) × (strictly_rising l.samples l.last (words_in (chunks_exact_rest l.entry-iterator)) ≡ syncs_agree l.stss l.samples)
