-- `tables_vectors::answers::child` meets its contract: an atom is no longer than its set.
-- Assumes nothing.
use mathlib.Core.Path.{ap, ◌∙◌}
use native.Mathlib.Omega.{arith}
use lib.ListN.{length}
use Rattle.atoms.specs.Kinds.{stbl}
use Rattle.atoms.specs.Atoms.{child_in}
use Rattle.atoms.proofs.Lengths.{child_short}
use Rattle.places.proofs.Parts.{whole_part}
use Rattle.tables_vectors.proofs.answers.child.Goals as goal

pub child_part-requires : goal.child_part-requires
child_part-requires c = tt

pub part_of-requires : goal.part_of-requires
part_of-requires c = tt

pub returns : goal.returns
returns c =
    let k = c.args.kind in
    let i = c.args.i in
    let e = c.part_of.ensures ∙ c.child_part.ensures ∙ ap (child_in stbl k i) (whole_part _) in
    omega (arith, ap length e, child_short stbl k i c.args.set.now, c.requires)
