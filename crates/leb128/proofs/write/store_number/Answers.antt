-- `leb128::write::store_number` meets its contract: the invariant says that the groups of what is left, stored from p on, make what the whole number's groups make
-- of the buffer at entry.
-- Assumes nothing.
use mathlib.Core.Path.{◌≡◌, refl, ap, sym, ◌∙◌}
use Prim.Native.Nat.{◌+◌}
use native.Mathlib.Numerals.{add-one}
use native.Mathlib.Omega.{arith}
use lib.ListN.{length, length-set}
use lib.Seq.{sets}
use Rattle.leb128.specs.Numbers.{groups}
use Rattle.leb128.proofs.Groups.{groups_one, groups_some, groups_turn, groups_all}
use Rattle.leb128.proofs.write.store_number.Goals as goal

pub loop-rest-init : goal.loop-rest-init
loop-rest-init c =
    let g = groups_all c.args.n c.ranges.n.fits in
    (g.0, g.1, omega (arith, ap length g.2), rw g.2, refl)

pub overflow_add-out : goal.overflow_add-out
overflow_add-out c = omega arith

pub overflow_cast-out : goal.overflow_cast-out
overflow_cast-out c = omega arith

pub bounds-out-p : goal.bounds-out-p
bounds-out-p c = omega (arith, groups_some c.loop-rest.invariant.0 c.loop-rest.rest, c.requires)

pub overflow_add-p : goal.overflow_add-p
overflow_add-p c = omega (arith, groups_some c.loop-rest.invariant.0 c.loop-rest.rest, c.requires, c.well_formed)

pub loop-rest-smaller : goal.loop-rest-smaller
loop-rest-smaller c = omega arith

pub loop-rest-preserved : goal.loop-rest-preserved
loop-rest-preserved c =
    let l = c.loop-rest in
    let i = l.invariant in
    let g = groups_turn i.0 l.rest i.1 c.loop-rest-test.true in (
      g.0,
      g.1,
      omega (arith, ap length g.2),
      rw add-one (ap (sets l.out l.p) (sym g.2) ∙ i.3),
      length-set l.out l.p _ ∙ i.4,
    )

pub overflow_cast-out-2 : goal.overflow_cast-out-2
overflow_cast-out-2 c = omega arith

pub bounds-out-p-2 : goal.bounds-out-p-2
bounds-out-p-2 c = omega (arith, groups_some c.loop-rest.invariant.0 c.loop-rest.rest, c.requires)

pub overflow_add-result : goal.overflow_add-result
overflow_add-result c = omega (arith, groups_some c.loop-rest.invariant.0 c.loop-rest.rest, c.requires, c.well_formed)

pub shape_of-out : goal.shape_of-out
shape_of-out c = simp length-set c.loop-rest.invariant.4

pub returns : goal.returns
returns c =
    let l = c.loop-rest in
    let i = l.invariant in
    let a = c.args in
    let one = groups_one i.0 l.rest c.loop-rest-test.false in
    let past : l.p + 1 ≡ a.at + length (groups a.n) = omega (arith, ap length one) in (
      past,
      ap (sets l.out l.p) (sym one) ∙ i.3,
    )
