-- `compact_entries::put_deals` meets its contract: at each turn the last entry written and the rest of the part give what is still to be written.
-- Assumes nothing.
use Prim.Native.Nat.{◌+◌}
use lib.ListN.{length}
use lib.Seq.{sets}
use Rattle.byte_writing.proofs.Writing.{Storing}
use Rattle.compact_entries.proofs.Merging.{deals_rest}
use Rattle.compact_entries.proofs.put_deals.Given as goal

abbrev pub invariant-loop-t : goal.invariant-loop-t
invariant-loop-t l = Storing (sets l.initial.out l.initial.k (deals_rest l.initial.e l.initial.t)) l.initial.out (l.initial.k + length (deals_rest l.initial.e l.initial.t)) l.out l.k (deals_rest l.e l.t)

abbrev pub decreases-loop-t : goal.decreases-loop-t
decreases-loop-t l = length l.t
