-- `return_totals::FilmReturn::empty` meets its contract, by computation.
-- Assumes nothing.
use mathlib.Core.Path.{refl}
use Rattle.return_totals.specs.Returns.{scales_in, return_of}
use Rattle.return_totals.proofs.FilmReturn.empty.Goals as goal

pub returns : goal.returns
unfolding return_of scales_in
returns c = (refl, refl)
