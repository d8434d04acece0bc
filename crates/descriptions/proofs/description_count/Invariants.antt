-- `descriptions::description_count` meets its contract; the loop's invariant: the count and the descriptions of the rest make
-- those of the whole, and no description is without a byte.
-- Assumes nothing.
use Prim.Native.Nat.{◌+◌, ◌≤◌}
use mathlib.Core.Path.{◌≡◌}
use lib.ListN.{length}
use Rattle.atoms.specs.Pieces.{pieces}
use Rattle.leaves.specs.Leaves.{size_entry}
use Rattle.descriptions.specs.Descriptions.{descriptions}
use Rattle.descriptions.proofs.description_count.Given as goal

abbrev pub invariant-loop-t : goal.invariant-loop-t
invariant-loop-t l = (l.count + length (pieces (size_entry l.least) l.t) ≡ length (descriptions l.least l.stsd)) × (l.count + length l.t ≤ length l.stsd)

abbrev pub decreases-loop-t : goal.decreases-loop-t
decreases-loop-t l = length l.t
