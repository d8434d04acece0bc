-- `compact_entries::put_runs` meets its contract: at each turn the entry in hand and the rest of the part give what is still to be written. Each
-- count is below 2^32 and takes 8 bytes, so the sum stays below 2^29 times the bytes read.
-- Assumes nothing.
use Prim.Native.Nat.{◌+◌, ◌*◌, ◌≤◌}
use lib.ListN.{length}
use lib.Seq.{sets}
use Rattle.lists.specs.Entries.{rows_of}
use Rattle.byte_writing.specs.Bytes.{joined}
use Rattle.compact_entries.specs.Entries.{compact_runs}
use Rattle.byte_writing.proofs.Writing.{Storing}
use Rattle.compact_entries.proofs.Merging.{runs_rest}
use Rattle.compact_entries.proofs.put_runs.Given as goal

abbrev pub invariant-loop-t : goal.invariant-loop-t
invariant-loop-t l =
    Storing (sets l.initial.out l.at (joined (compact_runs (rows_of 8 l.part)))) l.initial.out (l.at + length (joined (compact_runs (rows_of 8 l.part)))) l.out l.k (runs_rest l.count l.e l.t)
    × (l.count + 536870912 * length l.t ≤ 536870912 * length l.part)

abbrev pub decreases-loop-t : goal.decreases-loop-t
decreases-loop-t l = length l.t
