-- `host_profile_checks::hand_check_profile` meets its contract, case by case of the answer.
-- Assumes nothing.
use mathlib.Core.Path.{◌≡◌}
use Rattle.std.specs.Prelude.{Result, Ok}
use Rattle.refusals.specs.declared.Refusal.{Refusal}
use Rattle.profile_checks.specs.declared.ProfileCheck.{ProfileCheck}
use Rattle.hand.proofs.Answered.{handed, of_case}
use Rattle.profile_checks.specs.Checks.{check_numbers}
use Rattle.host_profile_checks.proofs.hand_check_profile.Goals as goal

-- an answer and what is in it
inside : (x : Result ProfileCheck Refusal) (f g : ProfileCheck) → x ≡ Ok f → f ≡ g → x ≡ Ok g
inside x f g e d = rw (e, d)

pub returns-in-Ok-Yes : goal.returns-in-Ok-Yes
unfolding check_numbers
returns-in-Ok-Yes c = handed _ _ _ _ _ _ (of_case check_numbers c.check_profile.ensures.answer (inside _ _ _ c.in-Ok-Yes.is c.in-Ok-Yes.field-0-is)) c.hand.ensures

pub returns-in-Ok-Fault : goal.returns-in-Ok-Fault
unfolding check_numbers
returns-in-Ok-Fault c = handed _ _ _ _ _ _ (of_case check_numbers c.check_profile.ensures.answer (inside _ _ _ c.in-Ok-Fault.is c.in-Ok-Fault.field-0-is)) c.hand-in-Ok-Fault.ensures

pub returns-in-Err : goal.returns-in-Err
unfolding check_numbers
returns-in-Err c = handed _ _ _ _ _ _ (of_case check_numbers c.check_profile.ensures.answer c.in-Err.is) (rw c.from.ensures at c.hand-in-Err.ensures)
