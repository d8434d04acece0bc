-- Stepping through a track. Document 02: "Started at any sample, its answers equal the sample question's from there to the end, and each step
-- itself moves the position on. A step after sample N answers done". The claim is `StepsFromAny`; it goes by the promises of `Stepper::at` and
-- `step` alone.
use Rattle.std.specs.Prelude.{ℕ, zero, suc, ◌+◌, ◌-◌, ◌≤◌, ◌≡◌, List, [], ◌∷◌, map, length, Result, Ok}
use Rattle.structure.specs.declared.source.Source.{Source}
use Rattle.structure.specs.Track.{samples_of}
use Rattle.questions.specs.Asked.{ask_refusal, track_asked}
use Rattle.questions.specs.Samples.{sample_answer}
use Rattle.questions.specs.declared.samples.Sample.{Sample}
use Rattle.stepping.specs.Stepping.{Stands, Starts, Forward, Steps, Chain}
use Rattle.stepping.specs.declared.Stepper.{Stepper}
use Rattle.stepping.specs.declared.Step.{Step}
use Rattle.stepping.specs.declared.Step.TheVariants.{Next, Done}
use Rattle.refusals.specs.declared.Refusal.{Refusal}

-- what is answered for c numbers from n on
abbrev pub answers_from : (ℕ → Result Sample Refusal) → ℕ → ℕ → List (Result Sample Refusal)
answers_from g n zero = []
answers_from g n (suc c) = g n ∷ answers_from g (suc n) c

-- the steps of f, each from the position that the one before it gave, p being the first: the samples xs, and then done
abbrev pub Walks : (Stepper → Step) → Stepper → List Sample → Type 0
Walks f p [] = f p ≡ Done
Walks f p (x ∷ xs) = (q : Stepper) × (f p ≡ Next x q) × Walks f q xs

-- f keeps the promise of `step` at each position of the track
abbrev pub Keeps : List ℕ → Source → ℕ → (Stepper → Step) → Type 0
Keeps s w id f = (k : ℕ) (q : Stepper) → Stands s w id k q → Steps s q (f q)

-- of the film s, lent by the source w: from a position p before sample n of N; xs are the samples of any steps (`Chain`) from p to q
pub record StepsThrough (s : List ℕ) (w : Source) (id n : ℕ) (p : Stepper) : Type 0 where
  -- "from there to the end": what the sample question answers from n to N, and then done
  pub to_end : (f : Stepper → Step) → Keeps s w id f
      → (xs : List Sample) × Walks f p xs × (map Ok xs ≡ answers_from (sample_answer s w id) n (suc (samples_of (track_asked s id)) - n))
  -- any steps' samples are what the sample question answers from n on
  pub answers : (xs : List Sample) (q : Stepper) → Chain s p xs q → map Ok xs ≡ answers_from (sample_answer s w id) n (length xs)
  -- q is before the sample past them, or past sample N
  pub stands : (xs : List Sample) (q : Stepper) → Chain s p xs q → Stands s w id (n - 1 + length xs) q
  -- past sample N a step is done, and before it none is
  pub done : (xs : List Sample) (q : Stepper) → Chain s p xs q → n - 1 + length xs ≡ samples_of (track_asked s id)
      → (r : Step) → Steps s q r → r ≡ Done
  pub all : (xs : List Sample) (q : Stepper) → Chain s p xs q → Steps s q Done → n - 1 + length xs ≡ samples_of (track_asked s id)

-- "Started at any sample": where neither the film nor the ID is refused and n is in 1 to N, an answer that keeps the promise of `Stepper::at` is a
-- position, and the steps go through from there; so they do from any position that stands before sample n
pub record StepsFromAny (s : List ℕ) (w : Source) (id n : ℕ) : Type 0 where
  pub started : ask_refusal s w id ≡ 0 → 1 ≤ n → n ≤ samples_of (track_asked s id) → (r : Result Stepper Refusal) → Starts s w id n r
      → (p : Stepper) × (r ≡ Ok p) × StepsThrough s w id n p
  pub standing : 1 ≤ n → (p : Stepper) → Stands s w id (n - 1) p → StepsThrough s w id n p

-- from any position p, of another film or track too
pub record StepsAnywhere (s : List ℕ) (p : Stepper) : Type 0 where
  -- each step moves the position on by one sample, in the same tables
  pub moves : (xs : List Sample) (q : Stepper) → Chain s p xs q → q.moving.index ≡ p.moving.index + length xs
  pub tables : (xs : List Sample) (q : Stepper) → Chain s p xs q → q.tables ≡ p.tables
  -- none of its places goes back
  pub forward : (xs : List Sample) (q : Stepper) → Chain s p xs q → Forward p.moving q.moving
  -- so the steps end
  pub ends : (xs : List Sample) (q : Stepper) → Chain s p xs q → length xs ≤ p.samples - p.moving.index
