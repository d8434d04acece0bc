-- `slip_numbers::ends::few_ends` meets its contract: the invariant says what both counts say of the bytes passed.
-- Assumes nothing.
use mathlib.Core.Path.{◌≡◌, sym}
use Prim.Native.Nat.{◌+◌, ◌-◌}
use native.Mathlib.Omega.{arith}
use lib.ListN.{get_or}
use Rattle.slip_numbers.proofs.Ended.{end_one, ends_none, ends_more, fine_more}
use Rattle.slip_numbers.proofs.ends.few_ends.Goals as goal

pub loop-at-init : goal.loop-at-init
loop-at-init c =
    let z : c.args.from - c.args.from ≡ 0 = omega arith in
    (rw z (sym (ends_none _ _)), omega arith, omega arith, λ e x h l. absurd (omega arith))

pub overflow_add-ends : goal.overflow_add-ends
overflow_add-ends c =
    omega (arith, end_one (get_or c.args.bytes.now c.loop-at.at 0), c.end_of-ends.ensures, c.requires)

pub overflow_add-faults : goal.overflow_add-faults
overflow_add-faults c = omega (arith, c.fault-faults.ensures.0, c.requires)

pub loop-at-preserved : goal.loop-at-preserved
loop-at-preserved c =
    let l = c.loop-at in
    let a = c.args in
    let p : a.from + (l.at - a.from) ≡ l.at = omega arith in
    let s : l.at + 1 - a.from ≡ l.at - a.from + 1 = omega arith in
    let e = rw p at (ends_more a.bytes.now a.from (l.at - a.from)) in (
      rw s (omega (arith, e, c.end_of-ends.ensures, l.invariant.0)),
      omega (arith, end_one (get_or a.bytes.now l.at 0), c.end_of-ends.ensures),
      omega (arith, c.fault-faults.ensures.0),
      λ z. fine_more a.bytes.now a.from l.at (l.invariant.3 (omega arith)) (c.fault-faults.ensures.1 (omega arith)),
    )

pub returns-then-faults-eq0 : goal.returns-then-faults-eq0
returns-then-faults-eq0 c =
    let l = c.loop-at in
    let a = c.args in
    let e : l.at ≡ a.from + a.n = omega arith in
    let z : l.at - a.from ≡ a.n = omega arith in
    (rw z at l.invariant.0, rw e at (l.invariant.3 c.if-faults-eq0.true))
