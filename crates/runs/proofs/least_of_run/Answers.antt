-- `runs::least_of_run` meets its contract: a run of no samples has no duration, and any other has one.
-- Assumes nothing.
use mathlib.Core.Path.{sym}
use Rattle.runs.proofs.Leasts.{least_row}
use Rattle.runs.proofs.least_of_run.Goals as goal

pub returns-else-count-eq0 : goal.returns-else-count-eq0
returns-else-count-eq0 c = sym (least_row _ _ c.if-count-eq0.false)
