-- Samples put one after the other: the chain with one step more, and the room with one sample more.
-- Assumes nothing.
use Prim.Native.Nat.{ℕ, suc, ◌+◌, ◌*◌, ◌/◌, ◌≤◌, ◌<◌}
use mathlib.Core.Path.{◌≡◌, refl, ap, ◌∙◌}
use mathlib.Core.List.{List, [], ◌∷◌, ◌++◌}
use mathlib.Core.Logic.{◌⊎◌, inl, inr, ⊎_elim}
use native.Mathlib.Omega.{arith}
use native.Mathlib.Nat.{zero-add}
use lib.ListN.{length, set}
use lib.Seq.{sets, sets-eq, length-sets}
use lib.IntN.{ℤ}
use Rattle.movie.specs.Rooms.{filled_room}
use Rattle.positions.specs.declared.moving.Moving.{Moving}
use Rattle.questions.specs.Samples.{sample_values}
use Rattle.questions.specs.declared.samples.Sample.{Sample}
use Rattle.stepping.specs.Stepping.{Steps, Chain}
use Rattle.stepping.specs.declared.Stepper.{Stepper}
use Rattle.stepping.specs.declared.Step.TheVariants.{Next, Done}
use Rattle.steps_into.specs.Into.{flat_samples, StepsInto}

-- a position of the same tables by other places
abbrev pub at : Stepper → Moving → Stepper
at p m = record { tables = p.tables; samples = p.samples; moving = m }

-- one step more, at the end
pub chain_more : (s : List ℕ) (p : Stepper) (xs : List Sample) (q : Stepper) (x : Sample) (r : Stepper) → Chain s p xs q → Steps s q (Next x r)
    → Chain s p (xs ++ x ∷ []) r
chain_more s p [] q x r c h = (r, rw c h, refl)
chain_more s p (y ∷ ys) q x r c h = (c.0, c.1, chain_more s c.0 ys q x r c.2 h)

-- eight numbers for each
pub flat_length : (xs : List Sample) → length (flat_samples xs) ≡ 8 * length xs
flat_length [] = refl
flat_length (x ∷ xs) = omega (arith, flat_length xs)

flat_more : (xs : List Sample) (x : Sample) → flat_samples (xs ++ x ∷ []) ≡ flat_samples xs ++ sample_values x
flat_more [] x = refl
flat_more (y ∷ ys) x = ap (λ (l : List ℤ). sample_values y ++ l) (flat_more ys x)

more_length : (xs : List Sample) (x : Sample) → length (xs ++ x ∷ []) ≡ suc (length xs)
more_length [] x = refl
more_length (y ∷ ys) x = ap suc (more_length ys x)

-- stored one list after the other
sets_append : (vs ws l : List ℤ) (i : ℕ) → sets l i (vs ++ ws) ≡ sets (sets l i vs) (i + length vs) ws
sets_append [] ws l i = let e : i + 0 ≡ i = omega arith in rw e
sets_append (v ∷ vs) ws l i = let e : i + suc (length vs) ≡ suc i + length vs = omega arith in rw e (sets_append vs ws (set l i v) (suc i))

-- what the loop keeps
pub record Putting (s : List ℕ) (p : Stepper) (room : List ℤ) (position : Stepper) (new : List ℤ) (at : ℕ) : Type 0 where
  pub samples : List Sample
  pub chain : Chain s p samples position
  pub place : at ≡ 8 * length samples
  pub within : at ≤ length room
  pub same : length new ≡ length room
  pub stored : new ≡ sets room 0 (flat_samples samples)

pub start : (s : List ℕ) (p : Stepper) (room : List ℤ) → Putting s p room p room 0
start s p room = record { samples = []; chain = refl; place = refl; within = omega arith; same = refl; stored = refl }

module _ (s : List ℕ) (p : Stepper) (room : List ℤ) (position : Stepper) (new : List ℤ) (at : ℕ) (k : Putting s p room position new at) where
  -- a turn: one sample more
  pub turn : (x : Sample) (next : Stepper) (after : List ℤ) → Steps s position (Next x next) → at + 8 ≤ length new → after ≡ sets new at (sample_values x)
      → Putting s p room next after (at + 8)
  turn x next after h f e =
      let z : length (flat_samples k.samples) ≡ at = omega (arith, flat_length k.samples, k.place) in
      record {
        samples = k.samples ++ x ∷ [];
        chain = chain_more s p k.samples position x next k.chain h;
        place = omega (arith, more_length k.samples x, k.place);
        within = omega (arith, k.same);
        same = ap length e ∙ length-sets new at (sample_values x) ∙ k.same;
        stored = e ∙ rw (flat_more k.samples x, sets_append (flat_samples k.samples) (sample_values x) room 0, z, zero-add, ← k.stored) refl;
      }

  filled : new ≡ filled_room (flat_samples k.samples) room
  unfolding filled_room
  filled = k.stored ∙ rw zero-add at (sets-eq (flat_samples k.samples) room 0 (omega (arith, flat_length k.samples, k.place, k.within)))

  pub reached : (length room < at + 8) ⊎ Steps s position Done → StepsInto s p room (record { count = at / 8; position = position }) new
  reached h = record {
    samples = k.samples;
    chain = k.chain;
    count = omega (arith, k.place);
    within = omega (arith, k.place, k.within);
    ends = ⊎_elim (λ l. inl (omega (arith, k.place))) (λ d. inr d) h;
    filled = filled;
  }
