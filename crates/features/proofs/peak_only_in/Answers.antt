-- `features::peak_only_in` meets its contract.
-- Assumes nothing.
use mathlib.Core.Path.{◌∙◌}
use Rattle.features.proofs.Fields.{peak_timed, peak_is, peak_not}
use Rattle.features.proofs.peak_only_in.Goals as goal

pub subtype_in-requires : goal.subtype_in-requires
subtype_in-requires c = c.requires.0

pub returns-then-subtype_in-wanted : goal.returns-then-subtype_in-wanted
returns-then-subtype_in-wanted c = peak_not _ _ _ c.subtype_in.ensures c.if-subtype_in-wanted.true

pub part_of-requires : goal.part_of-requires
part_of-requires c = tt

pub part_of-requires-2 : goal.part_of-requires-2
part_of-requires-2 c = tt

pub scale_in-requires : goal.scale_in-requires
scale_in-requires c = c.requires.0

pub peak_of-requires : goal.peak_of-requires
peak_of-requires c = peak_timed _ _ _ _ c.requires.1 (c.part_of.ensures ∙ c.requires.0.stts) (c.part_of-2.ensures ∙ c.requires.0.stsz) c.scale_in.ensures

pub returns : goal.returns
returns c = peak_is _ _ _ _ _ _ _ c.subtype_in.ensures c.if-subtype_in-wanted.false (c.part_of.ensures ∙ c.requires.0.stts) (c.part_of-2.ensures ∙ c.requires.0.stsz) c.scale_in.ensures c.peak_of.ensures
