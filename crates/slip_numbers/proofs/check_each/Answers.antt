-- `slip_numbers::check_each` meets its contract: the invariant says that what is left to check, past the head, decides what all of it is.
-- Assumes nothing.
use mathlib.Core.Path.{◌≡◌, refl, sym, ◌∙◌}
use Prim.Native.Nat.{◌+◌, ◌-◌, ◌<◌}
use native.Mathlib.Omega.{arith}
use Rattle.std.proofs.lemmas.Result.{err_from_is_err_and}
use Rattle.slip_numbers.proofs.Runs.{allowed_past, check_none, check_good, check_absent}
use Rattle.slip_numbers.proofs.check_each.Goals as goal

pub loop-init : goal.loop-init
loop-init c = let z : c.args.c - 0 ≡ c.args.c = omega arith in (6, 0, omega arith, rw z refl)

pub returns-in_err-at : goal.returns-in_err-at
returns-in_err-at c =
    let p = err_from_is_err_and c.from_residual.result c.from_residual.ensures.1 in
    let left : 0 < c.args.c - c.loop.counter = omega arith in
    rw (p.1, p.2) (sym (c.loop.invariant.3 ∙ check_absent _ _ _ _ _ _ _ left _ c.read_number.ensures _ c.in_err-at.was))

pub loop-preserved : goal.loop-preserved
loop-preserved c =
    let i = c.loop.invariant in
    let left : 0 < c.args.c - c.loop.counter = omega arith in
    let s : c.args.c - c.loop.counter - 1 ≡ c.args.c - (c.loop.counter + 1) = omega arith in
    (i.0 + 1, c.in_ok-at.field-0.value, omega (arith, i.2), rw (← s) (i.3 ∙ check_good _ _ _ _ _ _ _ left _ c.read_number.ensures _ _ c.in_ok-at.was (allowed_past _ _ _ i.2)))

pub returns : goal.returns
returns c =
    let z : c.args.c - c.loop.counter ≡ 0 = omega arith in
    sym (c.loop.invariant.3 ∙ check_none _ _ _ _ _ _ _ z)
