-- The position by a handle, from what the tables at its places say.
-- Assumes nothing.
use Prim.Native.Nat.{ℕ}
use mathlib.Core.Path.{◌≡◌, refl, sym, ap, ◌∙◌}
use mathlib.Core.List.{List}
use Rattle.position_seeks.specs.Seeks.{sought_moving}
use Rattle.stepping.specs.Parts.{start_said}
use Rattle.stepping.specs.declared.Stepper.{Stepper}
use Rattle.std.specs.Prelude.{Result}
use Rattle.refusals.specs.declared.Refusal.{Refusal}
use Rattle.stepping.proofs.Started.{start_15, start_few, said_starts}
use Rattle.opened.specs.declared.Opened.{Opened}
use Rattle.opened_steps.specs.Steps.{StartBy}

pub by_start : (s : List ℕ) (h : Opened) (n : ℕ) (r : Result Stepper Refusal) → r ≡ start_said s h.tables h.samples n → StartBy s h n r
unfolding sought_moving
by_start s h n r e =
    record {
      right = λ w id b. rw e (said_starts s w id n b.asked h.tables b.tables h.samples b.samples);
      said = e;
      elsewhere = λ k q. start_15 s h.tables h.samples n k (sym e ∙ q);
      few = λ p q. let g = start_few s h.tables h.samples n p (sym e ∙ q) in (g.0, g.1);
      position = λ p q.
          let g = (start_few s h.tables h.samples n p (sym e ∙ q)).2 in
          (ap (λ (x : Stepper). x.tables) g, ap (λ (x : Stepper). x.samples) g, ap (λ (x : Stepper). x.moving.index) g);
    }
