-- What stepping hands to a caller in another language. Document 02: "a stepper that holds its position in each table by value and hands back the
-- next sample with the new position": the position is 29 numbers in lent places.
use Rattle.std.specs.Prelude.{ℕ, ◌≤◌, ◌<◌, ◌≡◌, List, [], ◌∷◌, ◌⊎◌, length, ℤ}
use Rattle.movie.specs.Rooms.{filled_room}
use Rattle.questions.specs.declared.samples.Sample.{Sample}
use Rattle.stepping.specs.Stepping.{step_numbers, Steps}
use Rattle.stepping.specs.declared.Stepper.{Stepper}
use Rattle.stepping.specs.declared.Step.{Step}
use Rattle.stepping.specs.declared.Step.TheVariants.{Next, Done}
use Rattle.steps_into.specs.Into.{StepsInto}
use Rattle.steps_into.specs.declared.Reached.{Reached}
use Rattle.position_numbers.specs.Position.{stepper_numbers, stepper_in}

-- ---- between the crate's own functions: the samples in the room, r of them, and the position put back where they are at least that many

pub record Advanced (s stepper : List ℕ) (room : List ℤ) (least r : ℕ) (stepper' : List ℕ) (room' : List ℤ) : Type 0 where
  pub position : Stepper
  pub steps : StepsInto s (stepper_in stepper) room (record { count = r; position = position }) room'
  pub kept : r < least → stepper' ≡ stepper
  pub numbers : least ≤ r → stepper' ≡ filled_room (stepper_numbers position) stepper
  pub again : least ≤ r → stepper_in stepper' ≡ position

-- ---- a step

-- the position past the sample; done leaves the position as it was
unfoldable pub stepper_after : Step → List ℕ → List ℕ
stepper_after (Next x q) stepper = filled_room (stepper_numbers q) stepper
stepper_after Done stepper = stepper

-- a step that keeps the promise of `step`, from the position in the places, and its numbers
pub record Stepped (s stepper : List ℕ) (places : List ℤ) (r : ℕ) (stepper' : List ℕ) (places' : List ℤ) : Type 0 where
  pub step : Step
  pub steps : Steps s (stepper_in stepper) step
  pub result : r ≡ 0
  pub numbers : places' ≡ filled_room (step_numbers step) places
  pub position : stepper' ≡ stepper_after step stepper
  pub again : (x : Sample) (q : Stepper) → step ≡ Next x q → stepper_in stepper' ≡ q

-- the promise of `hand_sample_step`: too few numbers of the position or too few places are refused 16, and nothing is written
pub record HandsStep (s stepper : List ℕ) (places : List ℤ) (r : ℕ) (stepper' : List ℕ) (places' : List ℤ) : Type 0 where
  pub short : (length stepper < 29) ⊎ (length places < 9) → (r ≡ 16) × (stepper' ≡ stepper) × (places' ≡ places)
  pub stepped : 29 ≤ length stepper → 9 ≤ length places → Stepped s stepper places r stepper' places'

-- ---- the next samples

-- the samples of steps one after the other from the position in the places, in the room: how many, and the position past them
pub record Filled (s stepper : List ℕ) (room : List ℤ) (places : List ℕ) (r : ℕ)
    (stepper' : List ℕ) (room' : List ℤ) (places' : List ℕ) : Type 0 where
  pub reached : Reached
  pub steps : StepsInto s (stepper_in stepper) room reached room'
  pub result : r ≡ 0
  pub count : places' ≡ filled_room (reached.count ∷ []) places
  pub numbers : stepper' ≡ filled_room (stepper_numbers reached.position) stepper
  pub again : stepper_in stepper' ≡ reached.position

-- the promise of `hand_sample_steps`
pub record HandsSteps (s stepper : List ℕ) (room : List ℤ) (places : List ℕ) (r : ℕ)
    (stepper' : List ℕ) (room' : List ℤ) (places' : List ℕ) : Type 0 where
  pub short : (length stepper < 29) ⊎ (length places < 1) → (r ≡ 16) × (stepper' ≡ stepper) × (room' ≡ room) × (places' ≡ places)
  pub filled : 29 ≤ length stepper → 1 ≤ length places → Filled s stepper room places r stepper' room' places'
