-- `leaves::filled_with` meets its contract; the loop's invariant: what the rest says, with the number still to come, is what the whole says.
-- Assumes nothing.
use mathlib.Core.Path.{◌≡◌}
use lib.ListN.{length}
use Rattle.leaves.specs.Leaves.{size_entry, filled_with}
use Rattle.leaves.proofs.filled_with.Given as goal

abbrev pub invariant-loop-t : goal.invariant-loop-t
invariant-loop-t l = filled_with (size_entry l.least) l.more l.t ≡ filled_with (size_entry l.least) l.n l.s

abbrev pub decreases-loop-t : goal.decreases-loop-t
decreases-loop-t l = length l.t
