-- `quay_rules::has_zero_size` meets its contract: a 0 is among the sizes not yet read exactly if it is among all.
-- Assumes nothing.
use Rattle.std.specs.Slice.Iter.{chunks_exact_rest, chunks_exact_size}
use mathlib.Core.Path.{◌≡◌}
use Rattle.words.specs.Words.{words_in, sizes}
use Rattle.quay_rules.specs.Rules.{has_zero}
use Rattle.quay_rules.proofs.has_zero_size.Given as goal

abbrev pub invariant-loop-entry : goal.invariant-loop-entry
invariant-loop-entry l = (chunks_exact_size l.entry-iterator ≡ 4) × (has_zero (words_in (chunks_exact_rest l.entry-iterator)) ≡ has_zero (sizes l.stsz))
