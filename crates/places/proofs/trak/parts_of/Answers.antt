-- `places::trak::parts_of` meets its contract: what the walks find is what the definitions name.
-- Assumes nothing.
use native.Mathlib.Omega.{arith}
use Rattle.places.proofs.Finding.{are_parts}
use Rattle.places.proofs.trak.parts_of.Goals as goal

pub find_heads-heads-requires : goal.find_heads-heads-requires
find_heads-heads-requires c = tt

pub body_part-requires : goal.body_part-requires
body_part-requires c = tt

pub find_three-in_mdia-requires : goal.find_three-in_mdia-requires
find_three-in_mdia-requires c = λ e. omega arith

pub body_part-requires-2 : goal.body_part-requires-2
body_part-requires-2 c = tt

pub find_three-in_minf-requires : goal.find_three-in_minf-requires
find_three-in_minf-requires c = λ e. omega arith

pub body_part-requires-3 : goal.body_part-requires-3
body_part-requires-3 c = tt

pub find_tables-found-requires : goal.find_tables-found-requires
find_tables-found-requires c = tt

pub of_version_0-requires : goal.of_version_0-requires
of_version_0-requires c = tt

pub body_part-requires-4 : goal.body_part-requires-4
body_part-requires-4 c = tt

pub child_part-requires : goal.child_part-requires
child_part-requires c = tt

pub body_part-requires-5 : goal.body_part-requires-5
body_part-requires-5 c = tt

pub child_part-requires-2 : goal.child_part-requires-2
child_part-requires-2 c = tt

pub chosen-requires : goal.chosen-requires
chosen-requires c = tt

pub returns : goal.returns
returns c =
    are_parts _ _ _ _ _ _ _ _ _ _ _ _ _ _
    c.find_heads-heads.ensures
    c.of_version_0.ensures
    c.body_part.ensures
    c.find_three-in_mdia.ensures
    c.body_part-2.ensures
    c.find_three-in_minf.ensures
    c.body_part-3.ensures
    c.find_tables-found.ensures
    c.body_part-4.ensures
    c.child_part.ensures
    c.body_part-5.ensures
    c.child_part-2.ensures
    c.chosen.ensures
