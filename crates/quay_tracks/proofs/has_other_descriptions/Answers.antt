-- `quay_tracks::has_other_descriptions` meets its contract, by the part that is read.
-- Assumes nothing.
use mathlib.Core.Path.{◌∙◌}
use Rattle.quay_tracks.proofs.Rules.{descriptions_by}
use Rattle.quay_tracks.proofs.has_other_descriptions.Goals as goal

pub returns : goal.returns
returns c = descriptions_by _ _ _ (c.part_of.ensures ∙ c.requires.stsd) c.u32_at.ensures
