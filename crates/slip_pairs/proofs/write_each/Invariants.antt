-- `slip_pairs::write_each` meets its contract: the loop keeps what `Writing` says, a pair with the next offset and the next sizes a turn.
-- Assumes nothing.
use mathlib.Core.Path.{◌≡◌}
use lib.ListN.{length}
use Rattle.words.specs.Words.{numbers_in, words_in, width_of}
use Rattle.pairs.specs.Walks.{run_pairs}
use Rattle.pair_bytes.proofs.Streaming.{Writing}
use Rattle.slip_pairs.proofs.write_each.Given as goal

abbrev pub invariant-loop-t : goal.invariant-loop-t
invariant-loop-t l = (l.width ≡ width_of l.r.long) × Writing (run_pairs l.r (numbers_in (width_of l.r.long) l.offsets) (words_in l.sizes)) l.initial.out l.at (run_pairs l.r (numbers_in (width_of l.r.long) l.t) (words_in l.z)) l.out l.k

abbrev pub decreases-loop-t : goal.decreases-loop-t
decreases-loop-t l = length l.t
