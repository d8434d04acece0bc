-- `top_level::Walk::step` meets its contract: each way out is one of the cases of a step.
-- Assumes nothing.
use mathlib.Core.Path.{sym, ap, ◌∙◌}
use Rattle.top_level.specs.declared.Next.TheVariants.{Read}
use Rattle.top_level.proofs.Steps.{past_moov, past_other, step_long, step_end, step_stop, step_on}
use Rattle.top_level.proofs.Walk.step.Goals as goal

pub returns-then-self-gt-LONGEST : goal.returns-then-self-gt-LONGEST
returns-then-self-gt-LONGEST c = sym (step_long _ _ c.if-self-gt-LONGEST.true)

pub returns-then-self : goal.returns-then-self
returns-then-self c = c.end.ensures ∙ sym (step_end _ _ c.if-self-gt-LONGEST.false c.if-self.true)

pub returns-then-size-eq0 : goal.returns-then-size-eq0
returns-then-size-eq0 c = sym (step_stop _ _ c.if-self-gt-LONGEST.false _ c.size_ahead-size.ensures.value c.if-self.false c.if-size-eq0.true)

pub returns-then-u32_at-eq-MOOV : goal.returns-then-u32_at-eq-MOOV
returns-then-u32_at-eq-MOOV c =
    rw c.one_more.ensures
    (sym
    (step_on _ _ c.if-self-gt-LONGEST.false _ c.size_ahead-size.ensures.value c.if-self.false c.if-size-eq0.false
    ∙ ap Read (past_moov _ _ _ (sym c.u32_at.ensures ∙ c.if-u32_at-eq-MOOV.true))))

pub returns-else-u32_at-eq-MOOV : goal.returns-else-u32_at-eq-MOOV
returns-else-u32_at-eq-MOOV c =
    let u = c.u32_at.ensures in
    sym
    (step_on _ _ c.if-self-gt-LONGEST.false _ c.size_ahead-size.ensures.value c.if-self.false c.if-size-eq0.false
    ∙ ap Read (past_other _ _ _ (λ q. c.if-u32_at-eq-MOOV.false (u ∙ q))))
