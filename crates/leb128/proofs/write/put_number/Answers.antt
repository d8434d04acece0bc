-- `leb128::write::put_number` meets its contract: whether the groups fit is the test of `put_at`.
-- Assumes nothing.
use mathlib.Core.Path.{sym, ap, ◌∙◌}
use native.Mathlib.Omega.{arith}
use Rattle.std.specs.Prelude.{Some}
use Rattle.leb128.specs.Numbers.{groups}
use Rattle.leb128.proofs.Puts.{put_fits, put_not}
use Rattle.leb128.proofs.write.put_number.Goals as goal

pub returns-in_err-end : goal.returns-in_err-end
returns-in_err-end c =
    let a = c.args in
    let p = put_not a.out.now a.at (groups a.n) (omega (arith, c.in_err-end.ensures, c.well_formed)) in
    (rw c.from_residual.ensures (sym p.0), sym p.1)

pub returns-then-out-end : goal.returns-then-out-end
returns-then-out-end c = let a = c.args in let p = put_not a.out.now a.at (groups a.n) (omega (arith, c.in_ok-end.ensures)) in (sym p.0, sym p.1)

pub returns : goal.returns
returns c =
    let a = c.args in
    let p = put_fits a.out.now a.at (groups a.n) (omega (arith, c.in_ok-end.ensures)) in
    (ap Some c.store_number.ensures.0 ∙ sym p.0, c.store_number.ensures.1 ∙ sym p.1)
