-- `leb128::write::counted_len` meets its contract: the invariant says that the groups counted and those of what is left are all of the number's.
-- Assumes nothing.
use mathlib.Core.Path.{ap}
use native.Mathlib.Omega.{arith}
use lib.ListN.{length}
use Rattle.leb128.proofs.Groups.{groups_one, groups_count, groups_turn, groups_all}
use Rattle.leb128.proofs.write.counted_len.Goals as goal

pub loop-rest-init : goal.loop-rest-init
loop-rest-init c = let g = groups_all c.args.n c.ranges.n.fits in (g.0, g.1, omega (arith, ap length g.2))

pub overflow_add-len : goal.overflow_add-len
overflow_add-len c = omega (arith, groups_count c.args.n)

pub loop-rest-smaller : goal.loop-rest-smaller
loop-rest-smaller c = omega arith

pub loop-rest-preserved : goal.loop-rest-preserved
loop-rest-preserved c =
    let i = c.loop-rest.invariant in
    let g = groups_turn i.0 c.loop-rest.rest i.1 c.loop-rest-test.true in
    (g.0, g.1, omega (arith, ap length g.2))

pub returns : goal.returns
returns c =
    let i = c.loop-rest.invariant in
    omega (arith, ap length (groups_one i.0 c.loop-rest.rest c.loop-rest-test.false))
