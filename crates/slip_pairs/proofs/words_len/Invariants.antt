-- `slip_pairs::words_len` meets its contract: the invariant says that what was added and what lies ahead make up the whole.
-- Assumes nothing.
use Prim.Native.Nat.{◌+◌}
use mathlib.Core.Path.{◌≡◌}
use lib.ListN.{length}
use Rattle.words.specs.Words.{words_in}
use Rattle.leb128.specs.Numbers.{writes}
use Rattle.slip_pairs.proofs.words_len.Given as goal

abbrev pub invariant-loop-t : goal.invariant-loop-t
invariant-loop-t l = l.len + length (writes (words_in l.t)) ≡ length (writes (words_in l.words))

abbrev pub decreases-loop-t : goal.decreases-loop-t
decreases-loop-t l = length l.t
