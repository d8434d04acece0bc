-- What a start hands to a caller in another language. Document 02: "a stepper that holds its position in each table by value and hands back the
-- next sample with the new position": the position is 29 numbers in lent places.
use Rattle.std.specs.Prelude.{ℕ, ◌≤◌, ◌≡◌, List, length, replicate, Result, Ok, Err}
use Rattle.structure.specs.declared.source.Source.{Source}
use Rattle.refusals.specs.Refusals.{code}
use Rattle.refusals.specs.declared.Refusal.{Refusal}
use Rattle.stepping.specs.Stepping.{Starts}
use Rattle.stepping.specs.declared.Stepper.{Stepper}
use Rattle.hand.specs.Places.{Hands}
use Rattle.position_numbers.specs.Position.{stepper_numbers, stepper_in}

-- "Numbers returned with a refusal are all 0"
unfoldable pub start_values : Result Stepper Refusal → List ℕ
start_values (Ok p) = stepper_numbers p
start_values (Err e) = replicate 29 0

-- the promise of `hand_start`: the refusal of a start and its values; what then stands in the places is the position
pub record StartHanded (start : Result Stepper Refusal) (stepper : List ℕ) (r : ℕ) (after : List ℕ) : Type 0 where
  pub handed : Hands (code start) (start_values start) stepper r after
  pub again : (p : Stepper) → start ≡ Ok p → 29 ≤ length stepper → stepper_in after ≡ p

-- the promise of `hand_step_start`: an answer that keeps the promise of `Stepper::at`, its refusal and its values
pub record HandsStart (s : List ℕ) (w : Source) (id n : ℕ) (stepper : List ℕ) (r : ℕ) (after : List ℕ) : Type 0 where
  pub start : Result Stepper Refusal
  pub starts : Starts s w id n start
  pub handed : Hands (code start) (start_values start) stepper r after
  -- what then stands in the places is the position
  pub again : (p : Stepper) → start ≡ Ok p → 29 ≤ length stepper → stepper_in after ≡ p
