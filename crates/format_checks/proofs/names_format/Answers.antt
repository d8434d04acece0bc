-- `format_checks::names_format` meets its contract: each arm has its code.
-- Assumes nothing.
use native.Mathlib.Omega.{arith}
use mathlib.Core.Path.{sym, ◌∙◌}
use Rattle.format_checks.proofs.Formats.{format_part, format_pictures, format_sound, format_other}
use Rattle.format_checks.proofs.names_format.Goals as goal

pub returns-then-not-is_universal : goal.returns-then-not-is_universal
returns-then-not-is_universal c = sym (format_part _ _ (sym c.is_universal.ensures ∙ c.if-not-is_universal.true))

pub returns-in-1986424180 : goal.returns-in-1986424180
returns-in-1986424180 c = sym (format_pictures _ _ _ c.u32_at-code.ensures (sym c.is_universal.ensures ∙ c.if-not-is_universal.false) c.in-1986424180.is)

pub returns-in-1634102644 : goal.returns-in-1634102644
returns-in-1634102644 c = sym (format_sound _ _ _ c.u32_at-code.ensures (sym c.is_universal.ensures ∙ c.if-not-is_universal.false) c.in-1634102644.is)

pub returns-in_default : goal.returns-in_default
returns-in_default c = sym (format_other _ _ _ c.u32_at-code.ensures (sym c.is_universal.ensures ∙ c.if-not-is_universal.false) (λ e. omega arith) (λ e. omega arith))
