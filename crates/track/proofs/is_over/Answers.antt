-- `track::is_over` meets its contract, by the two cases of the total.
-- Assumes nothing.
use mathlib.Core.Path.{sym}
use Rattle.track.proofs.Rows.{sum_within, over_is}
use Rattle.track.proofs.is_over.Goals as goal

pub returns-in-Some : goal.returns-in-Some
returns-in-Some c = sym (sum_within _ _ c.edits_total.ensures _ c.in-Some.is)

pub returns-in-None : goal.returns-in-None
returns-in-None c = sym (over_is _ _ c.edits_total.ensures c.in-None.is)
