-- `tree::check_tree` goes down the levels, and its loop keeps `Walked`.
use lib.ListN.{length}
use Rattle.tree.proofs.Walking.{Walked}
use Rattle.tree.proofs.+check_tree.Given as goal

abbrev pub decreases-check_tree : goal.decreases-check_tree
decreases-check_tree l = l.level

abbrev pub invariant-loop-t : goal.invariant-loop-t
invariant-loop-t l = Walked l.wide l.level l.parent l.body l.t l.counts l.found

abbrev pub decreases-loop-t : goal.decreases-loop-t
decreases-loop-t l = length l.t
