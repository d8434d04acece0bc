-- `places::child_part` meets its contract: the rest of the body stands at the place, and the atom that is looked for is the one at `skip` in the rest.
-- Assumes nothing.
use mathlib.Core.Path.{◌≡◌}
use lib.ListN.{length}
use Rattle.atoms.specs.Atoms.{child_in}
use Rattle.places.proofs.Parts.{At}
use Rattle.places.proofs.child_part.Given as goal

abbrev pub invariant-loop-t : goal.invariant-loop-t
invariant-loop-t l = (At l.lent l.t l.at) × (child_in l.parent l.kind l.skip l.t ≡ child_in l.parent l.kind l.i l.initial.t)

abbrev pub decreases-loop-t : goal.decreases-loop-t
decreases-loop-t l = length l.t
