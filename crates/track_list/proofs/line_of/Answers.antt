-- `track_list::line_of` meets its contract: each number is read at its place, by the parts of the track.
-- Assumes nothing.
use mathlib.Core.Path.{◌∙◌}
use Rattle.track_list.proofs.Lines.{line_by}
use Rattle.track_list.proofs.line_of.Goals as goal

pub part_of-mdhd-requires : goal.part_of-mdhd-requires
part_of-mdhd-requires c = tt

pub part_of-requires : goal.part_of-requires
part_of-requires c = tt

pub u32_at-requires : goal.u32_at-requires
u32_at-requires c = tt

pub part_of-requires-2 : goal.part_of-requires-2
part_of-requires-2 c = tt

pub u32_at-requires-2 : goal.u32_at-requires-2
u32_at-requires-2 c = tt

pub u32_at-requires-3 : goal.u32_at-requires-3
u32_at-requires-3 c = tt

pub media_total-requires : goal.media_total-requires
media_total-requires c = (c.requires.0, c.requires.1)

pub part_of-requires-3 : goal.part_of-requires-3
part_of-requires-3 c = tt

pub u32_at-requires-4 : goal.u32_at-requires-4
u32_at-requires-4 c = tt

pub part_of-requires-4 : goal.part_of-requires-4
part_of-requires-4 c = tt

pub u32_at-requires-5 : goal.u32_at-requires-5
u32_at-requires-5 c = tt

pub part_of-requires-5 : goal.part_of-requires-5
part_of-requires-5 c = tt

pub u32_at-requires-6 : goal.u32_at-requires-6
u32_at-requires-6 c = tt

pub u32_at-requires-7 : goal.u32_at-requires-7
u32_at-requires-7 c = tt

pub returns : goal.returns
returns c =
    let p = c.requires.0 in
    line_by _ _ _ _ _ _ _ _ _ _ _ _ _ _ _
    (c.part_of.ensures ∙ p.tkhd) (c.part_of-2.ensures ∙ p.hdlr) (c.part_of-mdhd.ensures ∙ p.mdhd)
    (c.part_of-3.ensures ∙ p.stsz) (c.part_of-4.ensures ∙ p.offsets) (c.part_of-5.ensures ∙ p.elst)
    c.u32_at.ensures c.u32_at-2.ensures c.u32_at-3.ensures c.media_total.ensures
    c.u32_at-4.ensures c.u32_at-5.ensures c.u32_at-6.ensures c.u32_at-7.ensures
