-- `quay_tracks::has_ctts` meets its contract, by the part that is read.
-- Assumes nothing.
use mathlib.Core.Path.{◌∙◌}
use Rattle.quay_tracks.proofs.Rules.{ctts_by}
use Rattle.quay_tracks.proofs.has_ctts.Goals as goal

pub returns : goal.returns
returns c = ctts_by _ _ (c.part_of.ensures ∙ c.requires.ctts)
