-- `return_totals::add_at` meets its contract.
-- Assumes nothing.
use mathlib.Core.Path.{◌≡◌}
use native.Mathlib.Omega.{arith}
use lib.ListN.{length}
use Rattle.return_totals.proofs.Following.{more-at}
use Rattle.return_totals.proofs.add_at.Goals as goal

pub returns : goal.returns
returns c r s w =
    let l : length c.args.f.totals.refused ≡ 14 = c.well_formed.0.1.1.1.0.1.1.1.0.1.0.1 in
    more-at c.args.f c.args.i c.args.n _ c.sum_of-sum.ensures (omega (arith, l, c.requires)) r s w _ c.later_refusal-refusal.ensures
