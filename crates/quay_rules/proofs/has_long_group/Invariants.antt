-- `quay_rules::has_long_group` meets its contract: what the numbers not yet read say after the last one read is what all say.
-- Assumes nothing.
use Rattle.std.specs.Slice.Iter.{chunks_exact_rest, chunks_exact_size}
use mathlib.Core.Path.{◌≡◌}
use Rattle.words.specs.Words.{words_in}
use Rattle.quay_rules.specs.Computed.{long_group}
use Rattle.quay_rules.proofs.has_long_group.Given as goal

abbrev pub invariant-loop-entry : goal.invariant-loop-entry
invariant-loop-entry l = (chunks_exact_size l.entry-iterator ≡ 4) × (long_group 250 l.samples l.last (words_in (chunks_exact_rest l.entry-iterator)) ≡ long_group 250 l.samples 1 (words_in l.numbers))
