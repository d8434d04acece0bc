-- The promises of a start for a caller in another language, from what the code has of the start and the places.
-- Assumes nothing.
use Prim.Native.Nat.{ℕ}
use mathlib.Core.Path.{◌≡◌, refl, ◌∙◌}
use mathlib.Core.List.{List}
use native.Mathlib.Omega.{arith}
use lib.ListN.{replicate}
use Rattle.structure.specs.declared.source.Source.{Source}
use Rattle.std.specs.Prelude.{Result, Ok, Err}
use Rattle.refusals.specs.Refusals.{number}
use Rattle.refusals.specs.declared.Refusal.{Refusal}
use Rattle.refusals.proofs.Numbers.{ok_one}
use Rattle.movie.proofs.Refused.{not_both}
use Rattle.stepping.specs.Stepping.{Starts}
use Rattle.stepping.specs.declared.Stepper.{Stepper}
use Rattle.hand.specs.Places.{Hands}
use Rattle.position_numbers.specs.Position.{HandsPosition}
use Rattle.host_step_starts.specs.Hands.{start_values, StartHanded, HandsStart}

module _ (stepper : List ℕ) (r : ℕ) (after : List ℕ) (x : Result Stepper Refusal) where
  pub start_at : (p : Stepper) → x ≡ Ok p → HandsPosition p stepper r after → StartHanded x stepper r after
  unfolding start_values
  start_at p e h = rw e (record { handed = h.handed; again = λ q c l. h.again l ∙ ok_one c })

  pub start_refused : (k : Refusal) → x ≡ Err k → Hands (number k) (replicate 29 0) stepper r after → StartHanded x stepper r after
  unfolding start_values
  start_refused k e h = rw e (record { handed = h; again = λ q c l. not_both _ k q refl c })

  -- of a start that keeps the promise of `Stepper::at`
  pub hands_start : (s : List ℕ) (w : Source) (id n : ℕ) → Starts s w id n x → StartHanded x stepper r after → HandsStart s w id n stepper r after
  hands_start s w id n a h = record { start = x; starts = a; handed = h.handed; again = h.again }
