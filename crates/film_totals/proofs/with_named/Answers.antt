-- `film_totals::with_named` is safe and ends.
-- Assumes nothing.
use mathlib.Core.Path.{sym}
use native.Mathlib.Omega.{arith}
use lib.Seq.{length-take-le}
use Rattle.film_totals.proofs.with_named.Goals as goal

pub slice_bounds-with_film-end : goal.slice_bounds-with_film-end
slice_bounds-with_film-end g c = sym (length-take-le _ _ (omega arith))
