-- `return_totals::add_each` meets its contract. The loop's invariant: the numbers from i on are still to be added.
-- Assumes nothing.
use lib.ListN.{drop}
use Rattle.return_totals.specs.Returns.{Return}
use Rattle.return_totals.specs.Following.{Follows, with_each}
use Rattle.return_totals.specs.declared.FilmReturn.{FilmReturn}
use Rattle.return_totals.proofs.Joining.{Toward, with_from}
use Rattle.return_totals.proofs.add_each.Given as goal

abbrev pub invariant-loop-i : goal.invariant-loop-i
invariant-loop-i l = (r : FilmReturn) (t : Return) → Follows r t l.initial.g → Toward r (with_each l.other.refused t) (with_from l.i (drop l.i l.other.refused)) l.g
