-- `features::whole_average` meets its contract.
-- Assumes nothing.
use mathlib.Core.Path.{◌∙◌}
use Rattle.features.proofs.Fields.{fits, whole_is}
use Rattle.features.proofs.whole_average.Goals as goal

pub part_of-requires : goal.part_of-requires
part_of-requires c = tt

pub all_bytes-bytes-requires : goal.all_bytes-bytes-requires
all_bytes-bytes-requires c = fits _ _ _ (c.part_of.ensures ∙ c.requires.0.stsz) c.requires.1

pub scale_in-requires : goal.scale_in-requires
scale_in-requires c = c.requires.0

pub media_total-requires : goal.media_total-requires
media_total-requires c = (c.requires.0, c.requires.2)

pub rate-requires : goal.rate-requires
rate-requires c = tt

pub returns : goal.returns
returns c = whole_is _ _ _ _ _ _ (c.part_of.ensures ∙ c.requires.0.stsz) c.all_bytes-bytes.ensures.0 c.scale_in.ensures c.media_total.ensures c.rate.ensures
