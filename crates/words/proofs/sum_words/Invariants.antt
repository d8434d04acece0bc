-- `words::sum_words` meets its contract: one or two numbers are read where they stand; else the sum so far and the numbers not yet read add up to all,
-- and each number read is below 2 ^ 32.
-- Assumes nothing.
use Rattle.std.specs.Slice.Iter.{chunks_exact_rest, chunks_exact_size}
use Prim.Native.Nat.{◌+◌, ◌*◌, ◌/◌, ◌≤◌}
use mathlib.Core.Path.{◌≡◌}
use lib.ListN.{length}
use Rattle.lists.specs.Lists.{sum}
use Rattle.words.specs.Words.{words_in}
use Rattle.words.proofs.sum_words.Given as goal

abbrev pub invariant-loop-entry : goal.invariant-loop-entry
invariant-loop-entry l = (chunks_exact_size l.entry-iterator ≡ 4) × (l.total + sum (words_in (chunks_exact_rest l.entry-iterator)) ≡ sum (words_in l.part)) × (l.total + length (chunks_exact_rest l.entry-iterator) / 4 * 4294967295 ≤ length l.part / 4 * 4294967295)
