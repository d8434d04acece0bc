-- `track::scale_in` meets its contract: the part is the one that has the time scale.
-- Assumes nothing.
use mathlib.Core.Path.{◌∙◌}
use Rattle.track.proofs.Rows.{scale_by}
use Rattle.track.proofs.scale_in.Goals as goal

pub part_of-requires : goal.part_of-requires
part_of-requires c = tt

pub u32_at-requires : goal.u32_at-requires
u32_at-requires c = tt

pub returns : goal.returns
returns c = scale_by _ _ _ (c.part_of.ensures ∙ c.requires.mdhd) c.u32_at.ensures
