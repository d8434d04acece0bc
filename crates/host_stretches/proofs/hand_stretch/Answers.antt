-- `host_stretches::hand_stretch` meets its contract: too few places, or case by case of the answer.
-- Assumes nothing.
use mathlib.Core.Path.{refl}
use Rattle.hand.proofs.Answered.{too_few, fills, of_case}
use Rattle.stretch.specs.Stretches.{stretch_refusal, stretch_numbers}
use Rattle.host_stretches.proofs.Judged.{stretch_judged}
use Rattle.host_stretches.proofs.hand_stretch.Goals as goal

pub returns-then-places-lt2 : goal.returns-then-places-lt2
unfolding stretch_refusal
returns-then-places-lt2 c =
    too_few _ _ _ _ _ _ _ _ (stretch_judged _ _ _ _ _ _) refl c.if-places-lt2.true
    (rw (← c.whole-source.ensures, ← c.span_refusal-asked.ensures, ← c.code.ensures) c.or_short.ensures)

pub returns-in-Ok : goal.returns-in-Ok
unfolding stretch_numbers
returns-in-Ok c =
    fills _ _ _ _ _ _ _ _ _ _ _ (stretch_judged _ _ _ _ _ _) (of_case stretch_numbers c.stretch_of.ensures.answer c.in-Ok.is)
    c.if-places-lt2.false
    c.hand.ensures
    c.stretch_of.ensures.places

pub returns-in-Err : goal.returns-in-Err
unfolding stretch_numbers
returns-in-Err c =
    fills _ _ _ _ _ _ _ _ _ _ _ (stretch_judged _ _ _ _ _ _) (of_case stretch_numbers c.stretch_of.ensures.answer c.in-Err.is)
    c.if-places-lt2.false
    (rw c.from.ensures at c.hand-in-Err.ensures)
    c.stretch_of.ensures.places
