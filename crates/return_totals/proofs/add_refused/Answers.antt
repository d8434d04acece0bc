-- `return_totals::add_refused` meets its contract.
-- Assumes nothing.
use mathlib.Core.Path.{◌≡◌}
use native.Mathlib.Omega.{arith}
use lib.ListN.{length}
use Rattle.return_totals.specs.Returns.{return_of}
use Rattle.return_totals.proofs.Following.{refused_more, none_refused}
use Rattle.return_totals.proofs.add_refused.Goals as goal

pub returns-then-i-ge14 : goal.returns-then-i-ge14
unfolding return_of
returns-then-i-ge14 c =
    let r = c.args.r in
    let l : length r.refused ≡ 14 = c.well_formed.0.1.1.1.0.1.0.1 in
    rw (← none_refused c.args.number _ c.slot_of-i.ensures (return_of r) (omega (arith, l, c.if-i-ge14.true))) c.unchanged_return-f.ensures.1

pub returns : goal.returns
returns c = rw (← refused_more c.args.number _ c.slot_of-i.ensures (return_of c.args.r)) (c.add_at.ensures c.args.r _ c.unchanged_return-f.ensures.1)
