-- `slip_numbers::ends::ends_from` meets its contract: the invariant says that what was found so far holds of the bytes passed.
-- Assumes nothing.
use mathlib.Core.Path.{◌≡◌, sym}
use Prim.Native.Nat.{◌+◌, ◌-◌}
use native.Mathlib.Omega.{arith}
use lib.ListN.{length}
use Rattle.slip_numbers.proofs.Ended.{ends_none, ends_join, ends_most, fine_join}
use Rattle.slip_numbers.proofs.ends.ends_from.Goals as goal

pub loop-at-init : goal.loop-at-init
loop-at-init c =
    let a = c.args in
    let z : a.from - a.from ≡ 0 = omega arith in
    (omega arith, omega (arith, c.requires), rw z (sym (ends_none _ _)), omega arith, λ x h l. absurd (omega arith))

pub few_ends-requires : goal.few_ends-requires
few_ends-requires c = (omega (arith, c.requires), omega arith, omega arith)

pub overflow_add-ends : goal.overflow_add-ends
overflow_add-ends c =
    let a = c.args in
    omega (arith, ends_most a.bytes.now c.loop-at.at 192, c.in_ok-few.ensures.0)

pub overflow_add-at : goal.overflow_add-at
overflow_add-at c = omega arith

pub loop-at-preserved : goal.loop-at-preserved
loop-at-preserved c =
    let a = c.args in
    let e = c.in_ok-few.ensures in
    let j = ends_join a.bytes.now a.from c.loop-at.at 192 c.loop-at.invariant.0 in (
      omega arith,
      omega arith,
      omega (arith, j, e.0, c.loop-at.invariant.2),
      omega (arith, ends_most a.bytes.now c.loop-at.at 192, e.0),
      fine_join a.bytes.now a.from c.loop-at.at (c.loop-at.at + 192) c.loop-at.invariant.4 e.1,
    )

pub few_ends-requires-2 : goal.few_ends-requires-2
few_ends-requires-2 c = (omega (arith, c.requires), omega arith, omega arith)

pub overflow_add-result : goal.overflow_add-result
overflow_add-result c =
    let a = c.args in
    omega (arith, ends_most a.bytes.now c.loop-at.at (length a.bytes.now - c.loop-at.at), c.in_ok-few-2.ensures.0)

pub returns : goal.returns
returns c =
    let a = c.args in
    let e = c.in_ok-few-2.ensures in
    let n = length a.bytes.now - c.loop-at.at in
    let p : c.loop-at.at + n ≡ length a.bytes.now = omega arith in
    let j = rw p at (ends_join a.bytes.now a.from c.loop-at.at n c.loop-at.invariant.0) in
    (omega (arith, j, e.0, c.loop-at.invariant.2), fine_join a.bytes.now a.from c.loop-at.at (length a.bytes.now) c.loop-at.invariant.4 (rw p at e.1))
