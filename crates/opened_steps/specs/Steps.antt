-- A position by the handle of a track: exact for the film and track that it was opened in, and of any other what the bytes at the handle's
-- places say.
use Rattle.std.specs.Prelude.{ℕ, ◌-◌, ◌≤◌, ◌<◌, ◌≡◌, List, Result, Ok, Err}
use Rattle.structure.specs.declared.source.Source.{Source}
use Rattle.stepping.specs.Parts.{start_said}
use Rattle.stepping.specs.Stepping.{Starts}
use Rattle.stepping.specs.declared.Stepper.{Stepper}
use Rattle.refusals.specs.declared.Refusal.{Refusal}
use Rattle.refusals.specs.declared.Refusal.TheVariants.{Outside}
use Rattle.opened.specs.Opened.{Opens}
use Rattle.opened.specs.declared.Opened.{Opened}

-- the promise of `start_by`: that of `Stepper::at` where the handle is of the film lent (`right`). Of a handle of another film, or of no film, the
-- position may differ from one correct program to another; this one's is `said`, of which the other fields hold: so `Elsewhere` of stepping bounds
-- the steps from there
pub record StartBy (s : List ℕ) (h : Opened) (n : ℕ) (r : Result Stepper Refusal) : Type 0 where
  pub right : (w : Source) (id : ℕ) → Opens s w id h → Starts s w id n r
  pub said : r ≡ start_said s h.tables h.samples n
  pub elsewhere : (e : Refusal) → r ≡ Err e → e ≡ Outside
  pub few : (p : Stepper) → r ≡ Ok p → (0 < n) × (n ≤ h.samples)
  pub position : (p : Stepper) → r ≡ Ok p → (p.tables ≡ h.tables) × (p.samples ≡ h.samples) × (p.moving.index ≡ n - 1)
