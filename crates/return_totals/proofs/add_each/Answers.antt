-- `return_totals::add_each` meets its contract. The loop's invariant: the numbers from i on are still to be added.
-- Assumes nothing.
use native.Mathlib.Omega.{arith}
use mathlib.Core.Path.{◌≡◌}
use lib.ListN.{length}
use Rattle.return_totals.proofs.Joining.{toward_all, toward_next, toward_none, all_slots, next_slot, no_slot}
use Rattle.return_totals.proofs.add_each.Goals as goal

pub loop-i-init : goal.loop-i-init
loop-i-init c r t w = rw (all_slots c.args.other.refused t) (toward_all r t _ _ w)

pub loop-i-preserved : goal.loop-i-preserved
loop-i-preserved c r t w =
    let long : length c.args.other.refused ≡ 14 = c.well_formed.1.0.1.1.1.0.1.0.1 in
    let ns = c.args.other.refused in
    toward_next r _ _ _ _ _ _ (next_slot ns c.loop-i.i (omega (arith, c.loop-i-test.true, long))) c.add_at-g.ensures (c.loop-i.invariant r t w)

pub returns : goal.returns
returns c r t w =
    let long : length c.args.other.refused ≡ 14 = c.well_formed.1.0.1.1.1.0.1.0.1 in
    toward_none r _ _ _ (no_slot _ c.loop-i.i (omega (arith, c.loop-i-test.false, long))) (c.loop-i.invariant r t w)
