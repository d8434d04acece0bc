-- `return_totals::add_scales` meets its contract. The loop's invariant: the scales from i on are still to be added.
-- Assumes nothing.
use native.Mathlib.Omega.{arith}
use mathlib.Core.Path.{◌≡◌}
use lib.ListN.{length}
use Rattle.return_totals.proofs.Joining.{toward_all, toward_next, toward_none, all_scales, next_scale, no_scale}
use Rattle.return_totals.proofs.add_scales.Goals as goal

pub loop-i-init : goal.loop-i-init
loop-i-init c r t w = rw (all_scales c.args.other _ c.min-i-end.ensures t) (toward_all r t _ _ w)

pub loop-i-preserved : goal.loop-i-preserved
loop-i-preserved c r t w =
    let units_long : length c.args.other.units ≡ 32 = c.well_formed.1.0.1.1.1.1.1.1.1.1.1.0.1.0.1 in
    let scales_long : length c.args.other.scales ≡ 32 = c.well_formed.1.0.1.1.1.1.1.1.1.1.0.1.0.1 in
    let n = c.min-i-end.ensures in
    toward_next r _ _ _ _ _ _ (next_scale c.args.other _ c.loop-i.i c.loop-i-test.true (omega (arith, n, scales_long)) (omega (arith, n, units_long))) c.add_scale-g.ensures
    (c.loop-i.invariant r t w)

pub returns : goal.returns
returns c r t w = toward_none r _ _ _ (no_scale c.args.other _ c.loop-i.i c.loop-i-test.false) (c.loop-i.invariant r t w)
