-- `features::average_rate` meets its contract: the edits count where there is a list of them.
-- Assumes nothing.
use mathlib.Core.Path.{◌∙◌}
use Rattle.features.proofs.Fields.{averaged_total, average_whole, average_edited, average_asks}
use Rattle.features.proofs.average_rate.Goals as goal

pub part_of-elst-requires : goal.part_of-elst-requires
part_of-elst-requires c = tt

pub whole_average-requires : goal.whole_average-requires
whole_average-requires c = (c.requires.0, c.requires.1.short, averaged_total _ _ c.requires.1)

pub returns-then-elst-eq0 : goal.returns-then-elst-eq0
returns-then-elst-eq0 c = average_whole _ _ _ (c.part_of-elst.ensures ∙ c.requires.0.elst) _ c.if-elst-eq0.true c.whole_average.ensures

pub part_of-stts-requires : goal.part_of-stts-requires
part_of-stts-requires c = tt

pub part_of-stsz-requires : goal.part_of-stsz-requires
part_of-stsz-requires c = tt

pub scale_in-requires : goal.scale_in-requires
scale_in-requires c = c.requires.0

pub edited_average-requires : goal.edited_average-requires
edited_average-requires c = average_asks _ _ _ (c.part_of-elst.ensures ∙ c.requires.0.elst) _ _ c.requires.1 (c.part_of-stts.ensures ∙ c.requires.0.stts) c.scale_in.ensures

pub returns : goal.returns
returns c = average_edited _ _ _ (c.part_of-elst.ensures ∙ c.requires.0.elst) _ _ _ _ c.if-elst-eq0.false (c.part_of-stts.ensures ∙ c.requires.0.stts) (c.part_of-stsz.ensures ∙ c.requires.0.stsz) c.scale_in.ensures c.edited_average.ensures
