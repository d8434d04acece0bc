-- `host_quay::hand_quay` meets its contract, case by case of the answer.
-- Assumes nothing.
use mathlib.Core.Path.{◌≡◌}
use Rattle.std.specs.Prelude.{Option, Result, Ok}
use Rattle.refusals.specs.declared.Refusal.{Refusal}
use Rattle.quay.specs.declared.Breach.{Breach}
use Rattle.hand.proofs.Answered.{handed, of_case}
use Rattle.quay.specs.Quay.{quay_numbers}
use Rattle.host_quay.proofs.hand_quay.Goals as goal

-- an answer and what is in it
inside : (x : Result (Option Breach) Refusal) (f g : Option Breach) → x ≡ Ok f → f ≡ g → x ≡ Ok g
inside x f g e d = rw (e, d)

pub returns-in-Ok-None : goal.returns-in-Ok-None
unfolding quay_numbers
returns-in-Ok-None c = handed _ _ _ _ _ _ (of_case quay_numbers c.check_quay.ensures.answer (inside _ _ _ c.in-Ok-None.is c.in-Ok-None.field-0-is)) c.hand.ensures

pub returns-in-Ok-Some : goal.returns-in-Ok-Some
unfolding quay_numbers
returns-in-Ok-Some c = handed _ _ _ _ _ _ (of_case quay_numbers c.check_quay.ensures.answer (inside _ _ _ c.in-Ok-Some.is c.in-Ok-Some.field-0-is)) c.hand-in-Ok-Some.ensures

pub returns-in-Err : goal.returns-in-Err
unfolding quay_numbers
returns-in-Err c = handed _ _ _ _ _ _ (of_case quay_numbers c.check_quay.ensures.answer c.in-Err.is) (rw c.from.ensures at c.hand-in-Err.ensures)
