-- `quay_tracks::has_few_syncs` meets its contract, by the parts that are read.
-- Assumes nothing.
use mathlib.Core.Path.{◌∙◌}
use Rattle.quay_tracks.proofs.Rules.{samples_by, syncs_by, syncs-agree}
use Rattle.quay_tracks.proofs.has_few_syncs.Goals as goal

pub lacks_syncs-requires : goal.lacks_syncs-requires
lacks_syncs-requires c = syncs-agree _ _ _ _ c.requires.1 (c.part_of-stss.ensures ∙ c.requires.0.stss) (samples_by _ _ _ (c.part_of.ensures ∙ c.requires.0.stsz) c.u32_at.ensures)

pub returns : goal.returns
returns c = syncs_by _ _ _ _ (c.part_of-stss.ensures ∙ c.requires.0.stss) (samples_by _ _ _ (c.part_of.ensures ∙ c.requires.0.stsz) c.u32_at.ensures) c.lacks_syncs.ensures
