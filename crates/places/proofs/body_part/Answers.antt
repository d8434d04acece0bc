-- `places::body_part` meets its contract: the body lies past the header, which is what the atom is longer.
-- Assumes nothing.
use Prim.Native.Nat.{◌<◌, ◌^◌}
use native.Mathlib.Omega.{arith}
use lib.ListN.{length}
use Rattle.places.proofs.Parts.{body_le, body_sum, body_is}
use Rattle.places.proofs.body_part.Goals as goal

pub part_of-atom-requires : goal.part_of-atom-requires
part_of-atom-requires c = tt

pub body_of-body-requires : goal.body_of-body-requires
body_of-body-requires c = tt

pub overflow_sub-result : goal.overflow_sub-result
overflow_sub-result c = body_le _ _ _ _ c.part_of-atom.ensures c.body_of-body.ensures

pub overflow_add-result : goal.overflow_add-result
overflow_add-result c =
    let h : length c.args.lent.now < 2 ^ 63 = omega (arith, c.well_formed.0.0) in
    let k : c.args.p.at < 2 ^ 64 = omega arith in
    record { fits = body_sum c.args.lent.now _ _ c.args.p c.part_of-atom.ensures c.body_of-body.ensures h k }

pub returns : goal.returns
returns c = body_is _ _ _ _ c.part_of-atom.ensures c.body_of-body.ensures
