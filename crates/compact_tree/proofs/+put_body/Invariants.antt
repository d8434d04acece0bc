-- `compact_tree::put_body` goes down the levels; at each turn of its loop the rest of the body gives what is still to be written.
use Prim.Native.Nat.{◌+◌, ◌-◌, ◌≤◌}
use lib.ListN.{length}
use lib.Seq.{sets}
use Rattle.compact_tree.specs.Tree.{compact_body}
use Rattle.byte_writing.proofs.Writing.{Storing}
use Rattle.compact_tree.proofs.Putting.{rest_of}
use Rattle.compact_tree.proofs.+put_body.Given as goal

abbrev pub decreases-put_body : goal.decreases-put_body
decreases-put_body l = l.level

abbrev pub invariant-loop-t : goal.invariant-loop-t
invariant-loop-t l = record {
  stores : Storing (sets l.fn.out l.at (compact_body l.level l.parent l.body)) l.fn.out (l.at + length (compact_body l.level l.parent l.body)) l.out l.k (rest_of (l.level - 1) l.parent l.t);
  within : length l.t ≤ length l.body;
}

abbrev pub decreases-loop-t : goal.decreases-loop-t
decreases-loop-t l = length l.t
