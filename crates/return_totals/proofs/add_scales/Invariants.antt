-- `return_totals::add_scales` meets its contract. The loop's invariant: the scales from i on are still to be added.
-- Assumes nothing.
use Rattle.return_totals.specs.Returns.{Return, scales_in}
use Rattle.return_totals.specs.Following.{Follows, with_met}
use Rattle.return_totals.specs.declared.FilmReturn.{FilmReturn}
use Rattle.return_totals.proofs.Joining.{Toward, scales_after}
use Rattle.return_totals.proofs.add_scales.Given as goal

abbrev pub invariant-loop-i : goal.invariant-loop-i
invariant-loop-i l = (r : FilmReturn) (t : Return) → Follows r t l.initial.g → Toward r (with_met (scales_in l.other) t) (with_met (scales_after l.other l.i-end l.i)) l.g
