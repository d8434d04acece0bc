-- `features::feature_of` meets its contract: each arm has its code, and each return the test of the subtype-in.
-- Assumes nothing.
use native.Mathlib.Omega.{arith}
use mathlib.Core.Path.{sym, ◌∙◌}
use Rattle.features.proofs.Codes.{only_yes, only_no, code_avvb, code_avab, code_tvsz, code_vfps, code_mvbr, code_mabr, code_other}
use Rattle.features.proofs.feature_of.Goals as goal

pub subtype_in-kind-requires : goal.subtype_in-kind-requires
subtype_in-kind-requires c = c.requires.0

pub returns-then-kind-eq-VIDE : goal.returns-then-kind-eq-VIDE
returns-then-kind-eq-VIDE c = c.average_rate.ensures ∙ sym (code_avvb _ _ _ c.in-1635153506.is ∙ only_yes _ _ _ _ c.subtype_in-kind.ensures c.if-kind-eq-VIDE.true)

pub returns-then-kind-eq-SOUN : goal.returns-then-kind-eq-SOUN
returns-then-kind-eq-SOUN c = c.average_rate-then-kind-eq-SOUN.ensures ∙ sym (code_avab _ _ _ c.in-1635148130.is ∙ only_yes _ _ _ _ c.subtype_in-kind.ensures c.if-kind-eq-SOUN.true)

pub returns-then-kind-eq-VIDE-2 : goal.returns-then-kind-eq-VIDE-2
returns-then-kind-eq-VIDE-2 c = c.picture_size.ensures ∙ sym (code_tvsz _ _ _ c.in-1953919866.is ∙ only_yes _ _ _ _ c.subtype_in-kind.ensures c.if-kind-eq-VIDE-2.true)

pub frame_rate-requires : goal.frame_rate-requires
frame_rate-requires c = c.requires.0

pub returns-then-kind-eq-VIDE-3 : goal.returns-then-kind-eq-VIDE-3
returns-then-kind-eq-VIDE-3 c = c.frame_rate.ensures ∙ sym (code_vfps _ _ _ c.in-1986424947.is ∙ only_yes _ _ _ _ c.subtype_in-kind.ensures c.if-kind-eq-VIDE-3.true)

pub returns-else-kind-eq-VIDE : goal.returns-else-kind-eq-VIDE
returns-else-kind-eq-VIDE c = sym (code_avvb _ _ _ c.in-1635153506.is ∙ only_no _ _ _ _ c.subtype_in-kind.ensures c.if-kind-eq-VIDE.false)

pub returns-else-kind-eq-SOUN : goal.returns-else-kind-eq-SOUN
returns-else-kind-eq-SOUN c = sym (code_avab _ _ _ c.in-1635148130.is ∙ only_no _ _ _ _ c.subtype_in-kind.ensures c.if-kind-eq-SOUN.false)

pub returns-else-kind-eq-VIDE-2 : goal.returns-else-kind-eq-VIDE-2
returns-else-kind-eq-VIDE-2 c = sym (code_tvsz _ _ _ c.in-1953919866.is ∙ only_no _ _ _ _ c.subtype_in-kind.ensures c.if-kind-eq-VIDE-2.false)

pub returns-else-kind-eq-VIDE-3 : goal.returns-else-kind-eq-VIDE-3
returns-else-kind-eq-VIDE-3 c = sym (code_vfps _ _ _ c.in-1986424947.is ∙ only_no _ _ _ _ c.subtype_in-kind.ensures c.if-kind-eq-VIDE-3.false)

pub returns-in-1836474994 : goal.returns-in-1836474994
returns-in-1836474994 c = c.peak_rate.ensures ∙ sym (code_mvbr _ _ _ c.in-1836474994.is)

pub returns-in-1835098738 : goal.returns-in-1835098738
returns-in-1835098738 c = c.peak_rate-in-1835098738.ensures ∙ sym (code_mabr _ _ _ c.in-1835098738.is)

pub returns-in_default : goal.returns-in_default
returns-in_default c = sym (code_other _ _ _ (λ e. omega arith) (λ e. omega arith) (λ e. omega arith) (λ e. omega arith) (λ e. omega arith) (λ e. omega arith))
