-- `format_checks::record_names` meets its contract, by what the calls ensure.
-- Assumes nothing.
use mathlib.Core.Path.{sym, ◌∙◌}
use Rattle.format_checks.proofs.record_names.Goals as goal

pub returns-then-not-names_format : goal.returns-then-not-names_format
returns-then-not-names_format c = rw (sym c.names_format.ensures ∙ c.if-not-names_format.true)

pub returns : goal.returns
returns c = rw (sym c.names_format.ensures ∙ c.if-not-names_format.false, c.u32_at.ensures)
