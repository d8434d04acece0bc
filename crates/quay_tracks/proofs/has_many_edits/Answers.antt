-- `quay_tracks::has_many_edits` meets its contract, by the part that is read.
-- Assumes nothing.
use mathlib.Core.Path.{◌∙◌}
use Rattle.quay_tracks.proofs.Rules.{edits_by}
use Rattle.quay_tracks.proofs.has_many_edits.Goals as goal

pub returns : goal.returns
returns c = edits_by _ _ _ (c.part_of.ensures ∙ c.requires.elst) c.u32_at.ensures
