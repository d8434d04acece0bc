-- `host_profiles::hand_profile` meets its contract: too few places, or case by case of the answer.
-- Assumes nothing.
use mathlib.Core.Path.{refl}
use Rattle.hand.proofs.Answered.{too_few, fills, of_case}
use Rattle.profiles.specs.Profiles.{profile_refusal, profile_answer_numbers}
use Rattle.host_profiles.proofs.Judged.{profile_judged}
use Rattle.host_profiles.proofs.hand_profile.Goals as goal

pub returns-then-places-lt1 : goal.returns-then-places-lt1
unfolding profile_refusal
returns-then-places-lt1 c = too_few _ _ _ _ _ _ _ _ (profile_judged _ _ _ _) refl c.if-places-lt1.true (rw (← c.id_refusal-asked.ensures, ← c.code.ensures) c.or_short.ensures)

pub returns-in-Ok : goal.returns-in-Ok
unfolding profile_answer_numbers
returns-in-Ok c =
    fills _ _ _ _ _ _ _ _ _ _ _ (profile_judged _ _ _ _) (of_case profile_answer_numbers c.stored_profile.ensures.answer c.in-Ok.is)
    c.if-places-lt1.false
    c.hand.ensures
    c.stored_profile.ensures.places

pub returns-in-Err : goal.returns-in-Err
unfolding profile_answer_numbers
returns-in-Err c =
    fills _ _ _ _ _ _ _ _ _ _ _ (profile_judged _ _ _ _) (of_case profile_answer_numbers c.stored_profile.ensures.answer c.in-Err.is)
    c.if-places-lt1.false
    (rw c.from.ensures at c.hand-in-Err.ensures)
    c.stored_profile.ensures.places
