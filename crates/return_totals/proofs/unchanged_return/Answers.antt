-- `return_totals::unchanged_return` meets its contract.
-- Assumes nothing.
use mathlib.Core.Path.{refl}
use Rattle.return_totals.proofs.Following.{nothing_yet}
use Rattle.return_totals.proofs.unchanged_return.Goals as goal

pub returns : goal.returns
returns c =
    let g = c.well_formed.0.1.1.1.1.1.1.1.1 in
    (refl, nothing_yet c.args.r g.0.1.0.1 g.1.0.1.0.1)
