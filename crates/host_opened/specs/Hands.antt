-- What opening a track, and the questions by a handle, hand to a caller in another language.
use Rattle.std.specs.Prelude.{ℕ, ◌≤◌, ◌<◌, ◌≡◌, List, length, replicate, ℤ, Option, Result, Ok, Err}
use Rattle.structure.specs.declared.source.Source.{Source}
use Rattle.questions.specs.Samples.{sample_numbers}
use Rattle.questions.specs.declared.samples.Sample.{Sample}
use Rattle.time_questions.specs.Times.{number_numbers, time_numbers}
use Rattle.time_questions.specs.declared.Numbered.{Numbered}
use Rattle.edits.specs.declared.MediaTime.{MediaTime}
use Rattle.refusals.specs.Refusals.{code}
use Rattle.refusals.specs.declared.Refusal.{Refusal}
use Rattle.hand.specs.Places.{Hands, Answers, SignedAnswers}
use Rattle.hand.specs.Times.{media, movie}
use Rattle.host_samples.specs.Numbers.{of_sample}
use Rattle.host_times.specs.Numbers.{of_sample_at, of_media_time}
use Rattle.opened.specs.Opened.{OpenAnswers, SampleBy, NumberBy, TimeBy}
use Rattle.opened.specs.declared.Opened.{Opened}
use Rattle.host_opened.specs.Handle.{opened_numbers, opened_in}

-- ---- opening

-- "Numbers returned with a refusal are all 0"
unfoldable pub open_values : Result Opened Refusal → List ℕ
open_values (Ok h) = opened_numbers h
open_values (Err e) = replicate 19 0

-- the promise of `hand_opening`: an answer that keeps the promise of `Opened::of`, its refusal and its values
pub record HandsOpening (s : List ℕ) (w : Source) (id : ℕ) (handle : List ℕ) (r : ℕ) (after : List ℕ) : Type 0 where
  pub opening : Result Opened Refusal
  pub opens : OpenAnswers s w id opening
  pub handed : Hands (code opening) (open_values opening) handle r after
  -- what then stands in the places is the handle
  pub again : (h : Opened) → opening ≡ Ok h → 19 ≤ length handle → opened_in after ≡ h

-- ---- by a handle

-- an answer of which a promise holds, and how it is handed over
pub record Answered {X : Type 0} (Promise Handed : X → Type 0) : Type 0 where
  pub answer : X
  pub promise : Promise answer
  pub handed : Handed answer

-- too few numbers of the handle are refused 16, and nothing is written; else an answer that keeps the promise of the question by the handle
pub record HandsBy {X Y : Type 0} (handle : List ℕ) (Promise Handed : X → Type 0) (places : List Y) (r : ℕ) (after : List Y) : Type 0 where
  pub short : length handle < 19 → (r ≡ 16) × (after ≡ places)
  pub answered : 19 ≤ length handle → Answered Promise Handed

-- the promises of the three functions
abbrev pub HandsSample : List ℕ → List ℕ → ℕ → List ℤ → ℕ → List ℤ → Type 0
HandsSample s handle n places r after =
    HandsBy {X = Result Sample Refusal} handle (SampleBy s (opened_in handle) n) (λ a. SignedAnswers (sample_numbers a) places r after) places r after

abbrev pub HandsNumber : List ℕ → List ℕ → ℕ → List ℕ → ℕ → List ℕ → Type 0
HandsNumber s handle t places r after =
    HandsBy {X = Result Numbered Refusal} handle (NumberBy s (opened_in handle) (media t)) (λ a. Answers (number_numbers a) places r after) places r after

abbrev pub HandsTime : List ℕ → List ℕ → ℕ → List ℕ → ℕ → List ℕ → Type 0
HandsTime s handle t places r after =
    HandsBy {X = Result (Option MediaTime) Refusal} handle (TimeBy s (opened_in handle) (movie t)) (λ a. Answers (time_numbers a) places r after) places r after

-- ---- the two together

-- by a handle in these places each question hands over what it does without one
pub record SameByHandle (s : List ℕ) (w : Source) (id : ℕ) (handle : List ℕ) : Type 0 where
  pub sample : (n : ℕ) (places : List ℤ) (r : ℕ) (after : List ℤ) → HandsSample s handle n places r after
      → SignedAnswers (of_sample s w id n) places r after
  pub number : (t : ℕ) (places : List ℕ) (r : ℕ) (after : List ℕ) → HandsNumber s handle t places r after
      → Answers (of_sample_at s w id t) places r after
  pub time : (t : ℕ) (places : List ℕ) (r : ℕ) (after : List ℕ) → HandsTime s handle t places r after
      → Answers (of_media_time s w id t) places r after
