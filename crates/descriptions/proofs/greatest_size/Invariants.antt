-- `descriptions::greatest_size` meets its contract; the loop's invariant: the greatest so far and that of the rest make that of the
-- whole, for width and height.
-- Assumes nothing.
use Prim.Native.Nat.{max}
use mathlib.Core.Path.{◌≡◌}
use lib.ListN.{length}
use Rattle.atoms.specs.Pieces.{pieces}
use Rattle.leaves.specs.Leaves.{size_entry}
use Rattle.descriptions.specs.Descriptions.{pictures, width_of, height_of, greatest}
use Rattle.descriptions.proofs.greatest_size.Given as goal

abbrev pub invariant-loop-t : goal.invariant-loop-t
invariant-loop-t l =
    (max l.width (greatest width_of (pieces (size_entry 36) l.t)) ≡ greatest width_of (pictures l.stsd))
    × (max l.height (greatest height_of (pieces (size_entry 36) l.t)) ≡ greatest height_of (pictures l.stsd))

abbrev pub decreases-loop-t : goal.decreases-loop-t
decreases-loop-t l = length l.t
