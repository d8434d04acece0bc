-- `features::peak_rate` meets its contract: its rate alone.
-- Assumes nothing.
use mathlib.Core.Path.{sym, ap, ◌∙◌}
use Rattle.peaks.specs.Peaks.{rate_in}
use Rattle.features.proofs.peak_rate.Goals as goal

pub returns-in_err-peak : goal.returns-in_err-peak
returns-in_err-peak c = c.from_residual.ensures ∙ sym (ap rate_in c.in_err-peak.was) ∙ ap rate_in c.peak_for.ensures

pub returns : goal.returns
returns c = sym (ap rate_in c.in_ok-peak.was) ∙ ap rate_in c.peak_for.ensures
