-- `capi::fragment_check::chaldoref_is_fragment` meets its contract.
-- Assumes nothing.
use mathlib.Core.Path.{sym, ◌∙◌}
use Rattle.fragments.specs.Fragments.{bit}
use Rattle.capi.proofs.fragment_check.chaldoref_is_fragment.Goals as goal

pub returns-then-is_fragment : goal.returns-then-is_fragment
unfolding bit
returns-then-is_fragment c = rw (sym c.is_fragment.ensures ∙ c.if-is_fragment.true)

pub returns-else-is_fragment : goal.returns-else-is_fragment
unfolding bit
returns-else-is_fragment c = rw (sym c.is_fragment.ensures ∙ c.if-is_fragment.false)
