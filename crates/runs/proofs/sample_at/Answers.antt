-- `runs::sample_at` meets its contract: the index alone of what is looked up.
-- Assumes nothing.
use mathlib.Core.Path.{sym, ap, ◌∙◌}
use Rattle.runs.proofs.Entries.{index_in, index_looked}
use Rattle.runs.proofs.sample_at.Goals as goal

pub returns-in_err-hit : goal.returns-in_err-hit
unfolding index_in
returns-in_err-hit c = c.from_residual.ensures ∙ ap index_in (sym c.in_err-hit.was) ∙ ap index_in c.look_up.ensures ∙ index_looked _ _

pub returns : goal.returns
unfolding index_in
returns c = ap index_in (sym c.in_ok-hit.was) ∙ ap index_in c.look_up.ensures ∙ index_looked _ _
