-- `film_totals::print_return` is safe and ends: its measure is how many bytes of names are left.
-- Assumes nothing.
use mathlib.Core.Path.{sym}
use lib.Seq.{length-take-le}
use Rattle.film_totals.proofs.print_return.Goals as goal

pub slice_bounds-with_named-end : goal.slice_bounds-with_named-end
slice_bounds-with_named-end g c = sym (length-take-le _ _ c.name_length-n.ensures.1)
