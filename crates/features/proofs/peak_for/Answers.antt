-- `features::peak_for` meets its contract, code by code.
-- Assumes nothing.
use native.Mathlib.Omega.{arith}
use mathlib.Core.Path.{sym, ◌∙◌}
use Rattle.features.proofs.Codes.{peak_mvbr, peak_mabr, peak_other}
use Rattle.features.proofs.peak_for.Goals as goal

pub returns-in-1836474994 : goal.returns-in-1836474994
returns-in-1836474994 c = c.peak_only_in.ensures ∙ sym (peak_mvbr _ _ c.in-1836474994.is)

pub returns-in-1835098738 : goal.returns-in-1835098738
returns-in-1835098738 c = c.peak_only_in-in-1835098738.ensures ∙ sym (peak_mabr _ _ c.in-1835098738.is)

pub returns-in_default : goal.returns-in_default
returns-in_default c = sym (peak_other _ _ (λ e. omega arith) (λ e. omega arith))
