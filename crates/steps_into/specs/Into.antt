-- The next samples in lent room.
use Rattle.std.specs.Prelude.{ℕ, suc, ◌*◌, ◌≤◌, ◌<◌, ◌≡◌, List, [], ◌∷◌, ◌++◌, ◌⊎◌, length, ℤ}
use Rattle.movie.specs.Rooms.{filled_room}
use Rattle.questions.specs.Samples.{sample_values}
use Rattle.questions.specs.declared.samples.Sample.{Sample}
use Rattle.stepping.specs.Stepping.{Steps, Chain}
use Rattle.stepping.specs.declared.Stepper.{Stepper}
use Rattle.stepping.specs.declared.Step.TheVariants.{Done}
use Rattle.steps_into.specs.declared.Reached.{Reached}

-- the eight numbers of each sample, one sample after the other
abbrev pub flat_samples : List Sample → List ℤ
flat_samples [] = []
flat_samples (x ∷ xs) = sample_values x ++ flat_samples xs

-- the promise of `steps_into`: the samples of steps one after the other fill the first places, as many as the room holds; or fewer, where a step
-- that is done keeps the promise of `step`. Of a position of its own film and track that is so only past sample N, so that none is left
pub record StepsInto (s : List ℕ) (p : Stepper) (room : List ℤ) (r : Reached) (after : List ℤ) : Type 0 where
  pub samples : List Sample
  pub chain : Chain s p samples r.position
  pub count : r.count ≡ length samples
  pub within : 8 * length samples ≤ length room
  pub ends : (length room < 8 * suc (length samples)) ⊎ Steps s r.position Done
  pub filled : after ≡ filled_room (flat_samples samples) room
