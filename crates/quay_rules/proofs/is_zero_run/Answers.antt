-- `quay_rules::is_zero_run` meets its contract: a run of no samples has none of no duration.
-- Assumes nothing.
use mathlib.Core.Path.{sym}
use Rattle.quay_rules.proofs.Zeros.{run_none, run_some}
use Rattle.quay_rules.proofs.is_zero_run.Goals as goal

pub returns-then-count-eq0 : goal.returns-then-count-eq0
returns-then-count-eq0 c = sym (run_none _ _ c.if-count-eq0.true)

pub returns : goal.returns
returns c = run_some _ _ c.if-count-eq0.false
