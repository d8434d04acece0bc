-- `places::part_within` meets its contract: a part that passes the end of the outer one is cut there.
-- Assumes nothing.
use Prim.Native.Nat.{◌<◌, ◌^◌}
use native.Mathlib.Omega.{arith}
use lib.ListN.{length}
use Rattle.places.proofs.Parts.{within_past, within_sum, within_whole, within_cut}
use Rattle.places.proofs.part_within.Goals as goal

pub returns-then-n-at : goal.returns-then-n-at
returns-then-n-at c = within_past _ _ _ c.args.p c.part_of-inner.ensures c.if-n-at.true

pub overflow_add-result : goal.overflow_add-result
overflow_add-result c =
    let h : length c.args.lent.now < 2 ^ 63 = omega (arith, c.well_formed.0.0) in
    record { fits = within_sum c.args.lent.now _ _ c.args.p c.part_of-inner.ensures (omega (arith, c.if-n-at.false)) h }

pub returns-then-p-n : goal.returns-then-p-n
returns-then-p-n c = within_whole _ _ _ c.args.p c.part_of-inner.ensures (omega (arith, c.if-n-at.false)) c.if-p-n.true

pub overflow_add-result-2 : goal.overflow_add-result-2
overflow_add-result-2 c =
    let h : length c.args.lent.now < 2 ^ 63 = omega (arith, c.well_formed.0.0) in
    record { fits = within_sum c.args.lent.now _ _ c.args.p c.part_of-inner.ensures (omega (arith, c.if-n-at.false)) h }

pub returns : goal.returns
returns c = within_cut _ _ _ c.args.p c.part_of-inner.ensures (omega (arith, c.if-n-at.false)) c.if-p-n.false
