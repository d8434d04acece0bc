-- `track::id_in` meets its contract: the part is the one that has the track ID.
-- Assumes nothing.
use mathlib.Core.Path.{◌∙◌}
use Rattle.track.proofs.Rows.{id_by}
use Rattle.track.proofs.id_in.Goals as goal

pub part_of-requires : goal.part_of-requires
part_of-requires c = tt

pub u32_at-requires : goal.u32_at-requires
u32_at-requires c = tt

pub returns : goal.returns
returns c = id_by _ _ _ (c.part_of.ensures ∙ c.requires.tkhd) c.u32_at.ensures
