-- `leb128::number::number_in` meets its contract: the loop keeps `Joining`, that the number is what its groups so far count, joined to what is read past them.
-- Assumes nothing.
use mathlib.Core.Path.{◌≡◌, refl, sym, ◌∙◌}
use Prim.Native.Nat.{◌+◌, ◌-◌, ◌*◌, ◌<◌, ◌^◌}
use native.Mathlib.Omega.{arith}
use lib.ListN.{get_or}
use Rattle.leb128.proofs.Readings.{joining_start, joining_short, joining_broken, joining_last, joining_one, joining_last_fits, joining_fits, joining_unit, joining_turn}
use Rattle.leb128.proofs.number.number_in.Goals as goal

pub loop-p-init : goal.loop-p-init
loop-p-init c = let a = c.args in let e : a.more - (a.at - a.at) ≡ a.more = omega arith in (rw e (joining_start _ _ _ _), omega arith)

pub ended-requires : goal.ended-requires
ended-requires c = (omega arith, joining_last_fits _ _ _ _ _ _ _ _ c.loop-p.invariant.0 _ c.if-rest-eq0.true c.if-b-top.true c.requires.2)

pub returns-then-b-top : goal.returns-then-b-top
returns-then-b-top c = c.ended.ensures ∙ sym (joining_last _ _ _ _ _ _ _ _ c.loop-p.invariant.0 _ c.loop-p-test.true refl c.if-rest-eq0.true c.if-b-top.true)

pub returns-then-rest-eq0 : goal.returns-then-rest-eq0
returns-then-rest-eq0 c = sym (joining_broken _ _ _ _ _ _ _ _ c.loop-p.invariant.0 _ c.loop-p-test.true refl c.if-rest-eq0.true c.if-b-top.false)

pub ended-requires-then-b-lt128 : goal.ended-requires-then-b-lt128
ended-requires-then-b-lt128 c = (omega arith, joining_fits _ _ _ _ _ _ _ _ c.loop-p.invariant.0 _ c.if-rest-eq0.false c.requires.0 c.if-b-lt128.true c.requires.2)

pub returns-then-b-lt128 : goal.returns-then-b-lt128
returns-then-b-lt128 c = c.ended-then-b-lt128.ensures ∙ sym (joining_one _ _ _ _ _ _ _ _ c.loop-p.invariant.0 _ c.loop-p-test.true refl c.if-rest-eq0.false c.if-b-lt128.true)

pub overflow_mul-low : goal.overflow_mul-low
overflow_mul-low c =
    let e = c.from.ensures in
    let low_fits : c.loop-p.low + c.loop-p.unit * (get_or c.args.bytes.now c.loop-p.p 0 - 128) < 2 ^ 64 = joining_fits _ _ _ _ _ _ _ _ c.loop-p.invariant.0 _ c.if-rest-eq0.false c.requires.0 (omega (arith, c.type_inv.bytes c.loop-p.p)) c.requires.2 in
    rw e (omega (arith, low_fits))

pub overflow_add-low : goal.overflow_add-low
overflow_add-low c =
    let e = c.from.ensures in
    let low_fits : c.loop-p.low + c.loop-p.unit * (get_or c.args.bytes.now c.loop-p.p 0 - 128) < 2 ^ 64 = joining_fits _ _ _ _ _ _ _ _ c.loop-p.invariant.0 _ c.if-rest-eq0.false c.requires.0 (omega (arith, c.type_inv.bytes c.loop-p.p)) c.requires.2 in
    rw e (omega (arith, low_fits))

pub overflow_mul-unit : goal.overflow_mul-unit
overflow_mul-unit c = record { fits = joining_unit _ _ _ _ _ _ _ _ c.loop-p.invariant.0 c.if-rest-eq0.false c.requires.0 c.requires.2 }

pub loop-p-preserved : goal.loop-p-preserved
loop-p-preserved c =
    let l = c.loop-p in
    let a = c.args in
    let e = c.from.ensures in
    let s : a.more - (l.p - a.at) - 1 ≡ a.more - (l.p + 1 - a.at) = omega arith in
    let t = joining_turn _ _ _ _ _ _ _ _ l.invariant.0 _ c.loop-p-test.true refl c.if-rest-eq0.false c.if-b-lt128.false (c.type_inv.bytes l.p).fits in
    (rw (e, ← s) t, omega arith)

pub returns : goal.returns
returns c = sym (joining_short _ _ _ _ _ _ _ _ c.loop-p.invariant.0 (omega arith))
