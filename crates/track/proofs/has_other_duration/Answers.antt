-- `track::has_other_duration` meets its contract: both tests are those of the row.
-- Assumes nothing.
use mathlib.Core.Path.{◌∙◌}
use Rattle.track.proofs.Rows.{duration_by, other_by}
use Rattle.track.proofs.has_other_duration.Goals as goal

pub part_of-requires : goal.part_of-requires
part_of-requires c = tt

pub u32_at-stored-requires : goal.u32_at-stored-requires
u32_at-stored-requires c = tt

pub both-requires : goal.both-requires
both-requires c = tt

pub returns : goal.returns
returns c =
    let h = c.requires in
    c.both.ensures ∙ other_by _ _ _ _ (duration_by _ _ _ (c.part_of.ensures ∙ h.0.mdhd) c.u32_at-stored.ensures) h.1
