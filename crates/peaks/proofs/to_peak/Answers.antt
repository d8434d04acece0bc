-- `peaks::to_peak` meets its contract, case by case.
-- Assumes nothing.
use mathlib.Core.Path.{sym, ap, ◌∙◌}
use Rattle.peaks.specs.Slides.{to_peak}
use Rattle.peaks.proofs.to_peak.Goals as goal

pub returns-in_err-b : goal.returns-in_err-b
returns-in_err-b c = c.from_residual.ensures ∙ sym (ap to_peak c.in_err-b.was)

pub returns : goal.returns
returns c = sym (ap to_peak c.in_ok-b.was)
