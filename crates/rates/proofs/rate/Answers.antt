-- `rates::rate` meets its contract: none on each ground that a rate cannot be computed on, and the quotient by the promise of `ceiling` alone.
-- Assumes nothing.
use Prim.Native.Nat.{◌*◌, ◌≤◌}
use mathlib.Core.Path.{sym, ◌∙◌}
use native.Mathlib.Omega.{arith}
use Rattle.rates.proofs.Values.{rate_zero, rate_over, rate_is, value_is}
use Rattle.rates.proofs.rate.Goals as goal

pub returns-then-d-eq0 : goal.returns-then-d-eq0
returns-then-d-eq0 c = sym (rate_zero _ _ c.if-d-eq0.true)

pub returns-in_err-n : goal.returns-in_err-n
returns-in_err-n c =
    let large : 18446744073709551616 ≤ c.args.a * c.args.b = omega (arith, c.in_err-n.ensures) in
    c.from_residual.ensures ∙ sym (rate_over _ _ c.if-d-eq0.false large)

pub returns : goal.returns
returns c =
    let told = rate_is (c.args.a * c.args.b) c.args.d c.if-d-eq0.false c.in_ok-n.ensures.0 (rw c.in_ok-n.ensures.1 at c.ceiling-v.ensures) in
    c.ok.ensures.value ∙ value_is _ _ c.try_from.ensures ∙ sym told
