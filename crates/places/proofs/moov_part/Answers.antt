-- `places::moov_part` meets its contract, by what the calls ensure.
-- Assumes nothing.
use mathlib.Core.Path.{ap, ◌∙◌}
use Rattle.atoms.specs.Kinds.{file, moov}
use Rattle.atoms.specs.Atoms.{body_of, child_in}
use Rattle.structure.specs.Movie.{moov_of}
use Rattle.places.proofs.Parts.{whole_part}
use Rattle.places.proofs.moov_part.Goals as goal

pub child_part-moov-requires : goal.child_part-moov-requires
child_part-moov-requires c = tt

pub body_part-requires : goal.body_part-requires
body_part-requires c = tt

pub returns : goal.returns
unfolding moov_of
returns c = c.body_part.ensures ∙ ap body_of (c.child_part-moov.ensures ∙ ap (child_in file moov 0) (whole_part _))
