-- `references::reference_at` meets its contract; the loop's invariant: the reference that is looked for is the one at `skip` in the rest.
-- Assumes nothing.
use mathlib.Core.Path.{◌≡◌}
use mathlib.Core.List.{[]}
use lib.ListN.{length, get_or}
use Rattle.atoms.specs.Pieces.{pieces}
use Rattle.leaves.specs.Leaves.{size_entry}
use Rattle.references.specs.References.{references}
use Rattle.references.proofs.reference_at.Given as goal

abbrev pub invariant-loop-t : goal.invariant-loop-t
invariant-loop-t l = get_or (pieces (size_entry 12) l.t) l.skip [] ≡ get_or (references l.dref) l.i []

abbrev pub decreases-loop-t : goal.decreases-loop-t
decreases-loop-t l = length l.t
