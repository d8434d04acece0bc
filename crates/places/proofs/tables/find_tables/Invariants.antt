-- `places::tables::find_tables` meets its contract: the rest of the body stands at the place, and each table is found or still to be found in the rest.
-- Assumes nothing.
use lib.ListN.{length}
use Rattle.places.proofs.Parts.{At}
use Rattle.places.proofs.Finding.{Finding}
use Rattle.places.proofs.tables.find_tables.Given as goal

abbrev pub invariant-loop-t : goal.invariant-loop-t
invariant-loop-t l = (At l.lent l.t l.at) × Finding l.lent l.initial.t l.t l.found

abbrev pub decreases-loop-t : goal.decreases-loop-t
decreases-loop-t l = length l.t
