-- What a start by a handle hands to a caller in another language.
use Rattle.std.specs.Prelude.{ℕ, List, Result}
use Rattle.structure.specs.declared.source.Source.{Source}
use Rattle.stepping.specs.declared.Stepper.{Stepper}
use Rattle.refusals.specs.declared.Refusal.{Refusal}
use Rattle.opened_steps.specs.Steps.{StartBy}
use Rattle.host_opened.specs.Handle.{opened_in}
use Rattle.host_opened.specs.Hands.{HandsBy}
use Rattle.host_step_starts.specs.Hands.{StartHanded, HandsStart}

-- the promise of `hand_opened_step_start`: too few numbers of the handle are refused 16, and nothing is written; else a start that keeps the promise
-- of `start_by`, its refusal and its values
abbrev pub HandsStartBy : List ℕ → List ℕ → ℕ → List ℕ → ℕ → List ℕ → Type 0
HandsStartBy s handle n stepper r after =
    HandsBy {X = Result Stepper Refusal} handle (StartBy s (opened_in handle) n) (λ a. StartHanded a stepper r after) stepper r after

-- by a handle in these places a start hands over what it does without one
abbrev pub SameStart : List ℕ → Source → ℕ → List ℕ → Type 0
SameStart s w id handle =
    (n : ℕ) (stepper : List ℕ) (r : ℕ) (after : List ℕ) → HandsStartBy s handle n stepper r after → HandsStart s w id n stepper r after
