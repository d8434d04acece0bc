-- `slip_pairs::write_common` meets its contract: the loop keeps what `Writing` says, a pair with the next offset a turn.
-- Assumes nothing.
use lib.ListN.{length}
use Rattle.words.specs.Words.{words_in}
use Rattle.pairs.specs.Walks.{equal_length_pairs}
use Rattle.pair_bytes.proofs.Streaming.{Writing}
use Rattle.slip_pairs.proofs.write_common.Given as goal

abbrev pub invariant-loop-t : goal.invariant-loop-t
invariant-loop-t l = Writing (equal_length_pairs l.bytes (words_in l.offsets)) l.initial.out l.at (equal_length_pairs l.bytes (words_in l.t)) l.out l.k

abbrev pub decreases-loop-t : goal.decreases-loop-t
decreases-loop-t l = length l.t
