-- `shape::walk_traks` meets its contract: the rest of the body stands at the place, and its tracks are still to be judged.
-- Assumes nothing.
use lib.ListN.{length}
use Rattle.refusals.specs.Refusals.{code}
use Rattle.places.proofs.Parts.{At}
use Rattle.shape.proofs.Walking.{Walking}
use Rattle.shape.proofs.walk_traks.Given as goal

abbrev pub invariant-loop-t : goal.invariant-loop-t
invariant-loop-t l = (At l.lent l.t l.at) × Walking l.wide l.lent l.initial.t l.t (code l.refusal) l.traks

abbrev pub decreases-loop-t : goal.decreases-loop-t
decreases-loop-t l = length l.t
