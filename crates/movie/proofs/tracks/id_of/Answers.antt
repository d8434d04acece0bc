-- `movie::tracks::id_of` meets its contract, by what the calls ensure.
-- Assumes nothing.
use mathlib.Core.Path.{ap, ◌∙◌}
use Rattle.structure.specs.Track.{id_of}
use Rattle.movie.proofs.tracks.id_of.Goals as goal

pub part_of-requires : goal.part_of-requires
part_of-requires c = tt

pub id_in-requires : goal.id_in-requires
id_in-requires c = rw c.part_of.ensures c.requires

pub returns : goal.returns
returns c = c.id_in.ensures ∙ ap id_of c.part_of.ensures
