-- Films whose tracks agree in their lists and fields have the same steps: both are what the sample question answers.
-- Assumes nothing.
use Prim.Native.Nat.{ℕ, zero, suc, ◌-◌, ◌≤◌}
use mathlib.Core.Path.{◌≡◌, refl, sym, ap, ◌∙◌}
use mathlib.Core.List.{List, [], ◌∷◌, map}
use Rattle.structure.specs.declared.source.Source.{Source}
use Rattle.structure.specs.Track.{id_of, samples_of}
use Rattle.structure.specs.Movie.{moov_of, tracks_of}
use Rattle.words.specs.Words.{listed}
use Rattle.movie.specs.Tracks.{has_track}
use Rattle.questions.specs.Asked.{ask_refusal, track_asked}
use Rattle.questions.specs.Samples.{sample_refusal, sample_answer}
use Rattle.questions.specs.declared.samples.Sample.{Sample}
use Rattle.stepping.specs.Stepping.{Stands}
use Rattle.stepping.specs.declared.Stepper.{Stepper}
use Rattle.stepping.specs.declared.Step.{Step}
use Rattle.stepping_theorems.specs.Walked.{answers_from, Walks, Keeps}
use Rattle.stepping_theorems.proofs.Walked.{steps_from_any}
use Rattle.ways.proofs.Answers.{SameFilm, ids_same, asked, same_answers}
use Rattle.compaction_theorems.specs.Compact.{SameSteps}
use Rattle.std.specs.Prelude.{Result, Ok, Err}
use Rattle.refusals.specs.declared.Refusal.{Refusal}

from_same : (g h : ℕ → Result Sample Refusal) → ((n : ℕ) → g n ≡ h n) → (n c : ℕ) → answers_from g n c ≡ answers_from h n c
from_same g h e n zero = refl
from_same g h e n (suc c) = λ i. e n i ∷ from_same g h e (suc n) c i

-- the samples of some answers, to the first refusal
abbrev samples_in : List (Result Sample Refusal) → List Sample
samples_in [] = []
samples_in (Ok x ∷ l) = x ∷ samples_in l
samples_in (Err e ∷ l) = []

samples_found : (xs : List Sample) → samples_in (map Ok xs) ≡ xs
samples_found [] = refl
samples_found (x ∷ xs) = ap (λ l. x ∷ l) (samples_found xs)

module _ (s m : List ℕ) (w v : Source) (k : SameFilm s m w v) where
  has_same : (id : ℕ) → has_track id (moov_of m) ≡ has_track id (moov_of s)
  unfolding has_track
  has_same id = ap (listed id) (ap (map id_of) k.tracks ∙ ids_same k.became (tracks_of (moov_of s)) k.each)

  start_same : (id n : ℕ) → sample_refusal m v id n ≡ sample_refusal s w id n
  unfolding sample_refusal ask_refusal
  start_same id n = rw (k.refusal, has_same id, (asked s m w v k id).samples)

  samples_same : (id : ℕ) → samples_of (track_asked m id) ≡ samples_of (track_asked s id)
  samples_same id = (asked s m w v k id).samples

  steps_same : (id n : ℕ) (f g : Stepper → Step) (p q : Stepper) → 1 ≤ n → Keeps s w id f → Keeps m v id g
      → Stands s w id (n - 1) p → Stands m v id (n - 1) q → (xs : List Sample) × Walks f p xs × Walks g q xs
  steps_same id n f g p q h a b c d =
      let x = ((steps_from_any s w id n).standing h p c).to_end f a in
      let y = ((steps_from_any m v id n).standing h q d).to_end g b in
      let r = from_same (sample_answer m v id) (sample_answer s w id) ((same_answers s m w v k).sample id) n (suc (samples_of (track_asked s id)) - n) in
      let l = ap (λ t. answers_from (sample_answer m v id) n (suc t - n)) (samples_same id) in
      let e : y.0 ≡ x.0 = sym (samples_found y.0) ∙ ap samples_in (y.2 ∙ l ∙ r ∙ sym x.2) ∙ samples_found x.0 in
      (x.0, x.1, rw e at y.1)

  pub same_steps : SameSteps s w m v
  same_steps = record { start = start_same; samples = samples_same; steps = steps_same }
