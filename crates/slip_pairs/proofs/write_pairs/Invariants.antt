-- `slip_pairs::write_pairs` meets its contract: the loop keeps what `Writing` says, some chunks a turn.
-- Assumes nothing.
use lib.ListN.{length}
use Rattle.chunks.specs.Cursors.{ahead}
use Rattle.pair_bytes.proofs.Streaming.{Writing}
use Rattle.slip_pairs.proofs.Walking.{Walking, all_pairs, ahead_of}
use Rattle.slip_pairs.proofs.write_pairs.Given as goal

abbrev pub invariant-loop-p : goal.invariant-loop-p
invariant-loop-p l = Walking l.stsc l.stsz l.offsets l.chunks l.from l.stop l.p × Writing (all_pairs l.stsc l.stsz l.offsets l.chunks l.from l.stop) l.initial.out l.at (ahead_of l.stsc l.stsz l.offsets l.chunks l.from l.stop l.p) l.out l.k

abbrev pub decreases-loop-p : goal.decreases-loop-p
decreases-loop-p l = length (ahead l.stsc l.chunks l.p.cursor)
