-- `film_return::totals_of` meets its contract: each number is read by the parts of the track.
-- Assumes nothing.
use mathlib.Core.Path.{◌∙◌}
use Rattle.film_return.proofs.Tracks.{fits, totals_are}
use Rattle.film_return.proofs.totals_of.Goals as goal

pub part_of-stsz-requires : goal.part_of-stsz-requires
part_of-stsz-requires c = tt

pub scale_in-requires : goal.scale_in-requires
scale_in-requires c = c.requires.0

pub media_total-requires : goal.media_total-requires
media_total-requires c = (c.requires.0, c.requires.2)

pub u32_at-requires : goal.u32_at-requires
u32_at-requires c = tt

pub all_bytes-requires : goal.all_bytes-requires
all_bytes-requires c = fits _ _ (c.part_of-stsz.ensures ∙ c.requires.0.stsz) c.requires.1

pub returns : goal.returns
returns c =
    totals_are _ _ _ _ _ _ (c.part_of-stsz.ensures ∙ c.requires.0.stsz) c.scale_in.ensures c.media_total.ensures
    c.u32_at.ensures c.all_bytes.ensures.0
