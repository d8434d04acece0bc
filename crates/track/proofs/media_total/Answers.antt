-- `track::media_total` meets its contract: a total below 2^32 is not over.
-- Assumes nothing.
use mathlib.Core.Path.{sym, ◌∙◌}
use Rattle.track.proofs.Rows.{sum_is, not_over, total_by}
use Rattle.track.proofs.media_total.Goals as goal

pub part_of-requires : goal.part_of-requires
part_of-requires c = tt

pub returns-in-Some : goal.returns-in-Some
returns-in-Some c = sym (sum_is _ _ c.total_duration.ensures _ c.in-Some.is) ∙ total_by _ _ (c.part_of.ensures ∙ c.requires.0.stts)

pub returns-in-None : goal.returns-in-None
returns-in-None c = absurd (not_over _ _ c.total_duration.ensures c.in-None.is (rw (total_by _ _ (c.part_of.ensures ∙ c.requires.0.stts)) c.requires.1))
