-- `format_checks::format_fault` meets its contract, by what the calls ensure.
-- Assumes nothing.
use mathlib.Core.Path.{sym, ◌∙◌}
use Rattle.format_checks.proofs.Tracks.{no_format, missing_format, judged_format}
use Rattle.format_checks.proofs.format_fault.Goals as goal

pub returns-then-not-names_format : goal.returns-then-not-names_format
returns-then-not-names_format c = sym (no_format _ _ c.subtype_in-subtype.ensures _ _ (sym c.names_format.ensures ∙ c.if-not-names_format.true))

pub returns-then-missing : goal.returns-then-missing
returns-then-missing c = sym (missing_format _ _ c.subtype_in-subtype.ensures _ _ (sym c.names_format.ensures ∙ c.if-not-names_format.false) c.if-missing.true)

pub returns : goal.returns
returns c = judged_format _ _ c.subtype_in-subtype.ensures _ _ (sym c.names_format.ensures ∙ c.if-not-names_format.false) _ _ _ _ c.if-missing.false (c.part_of.ensures ∙ c.requires.stsd) c.least_size-least.ensures c.u32_at.ensures c.has_format.ensures
