-- `host_times::hand_time_answer` meets its contract, case by case of the answer.
-- Assumes nothing.
use mathlib.Core.Path.{◌≡◌, ap}
use mathlib.Core.List.{[], ◌∷◌}
use Rattle.std.specs.Prelude.{Option, Some, None, Result, Ok}
use Rattle.refusals.specs.declared.Refusal.{Refusal}
use Rattle.edits.specs.declared.MediaTime.{MediaTime}
use Rattle.hand.proofs.Answered.{handed}
use Rattle.time_questions.specs.Times.{time_numbers}
use Rattle.host_times.proofs.hand_time_answer.Goals as goal

shown : (x : Result (Option MediaTime) Refusal) (f : Option MediaTime) (m : MediaTime) → x ≡ Ok f → f ≡ Some m → time_numbers x ≡ 0 ∷ 1 ∷ m.0 ∷ []
unfolding time_numbers
shown x f m e d = rw (e, d)

not_shown : (x : Result (Option MediaTime) Refusal) (f : Option MediaTime) → x ≡ Ok f → f ≡ None → time_numbers x ≡ 0 ∷ 0 ∷ 0 ∷ []
unfolding time_numbers
not_shown x f e d = rw (e, d)

pub returns-in-Ok-Some : goal.returns-in-Ok-Some
returns-in-Ok-Some c = handed _ _ _ _ _ _ (shown _ _ _ c.in-Ok-Some.is (rw c.in-Ok-Some.is at c.in-Ok-Some.field-0-is)) c.hand.ensures

pub returns-in-Ok-None : goal.returns-in-Ok-None
returns-in-Ok-None c = handed _ _ _ _ _ _ (not_shown _ _ c.in-Ok-None.is (rw c.in-Ok-None.is at c.in-Ok-None.field-0-is)) c.hand-in-Ok-None.ensures

pub returns-in-Err : goal.returns-in-Err
unfolding time_numbers
returns-in-Err c = handed _ _ _ _ _ _ (ap time_numbers c.in-Err.is) (rw c.from.ensures at c.hand-in-Err.ensures)
