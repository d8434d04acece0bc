-- What filling an index, and the questions by a handle and it, hand to a caller in another language.
use Rattle.std.specs.Prelude.{ℕ, ◌≤◌, ◌<◌, ◌≡◌, cond, List, [], ◌∷◌, eqb, length, ℤ, Result}
use Rattle.structure.specs.declared.source.Source.{Source}
use Rattle.movie.specs.Rooms.{no_room, refused_with}
use Rattle.questions.specs.Samples.{sample_numbers}
use Rattle.questions.specs.declared.samples.Sample.{Sample}
use Rattle.refusals.specs.declared.Refusal.{Refusal}
use Rattle.time_questions.specs.Times.{number_numbers}
use Rattle.time_questions.specs.declared.Numbered.{Numbered}
use Rattle.hand.specs.Places.{Answers, SignedAnswers, Fills}
use Rattle.hand.specs.Times.{media}
use Rattle.host_samples.specs.Numbers.{of_sample}
use Rattle.host_times.specs.Numbers.{of_sample_at}
use Rattle.opened.specs.declared.Opened.{Opened}
use Rattle.host_opened.specs.Handle.{opened_in}
use Rattle.host_opened.specs.Hands.{HandsBy}
use Rattle.sample_index.specs.Index.{index_numbers, index_length, SampleByIndex, NumberByIndex}

-- ---- filling

-- the refusal, 16 for a room that is too short, and how many numbers the index has, 0 with a refusal
unfoldable pub of_index : List ℕ → Opened → List ℕ → List ℕ
of_index s h index = cond (eqb (no_room (index_numbers s h) index) 0) (0 ∷ index_length h ∷ []) (refused_with 1 (no_room (index_numbers s h) index))

-- the promise of `hand_index`: too few numbers of the handle are refused 16, and nothing is written
pub record HandsIndex (s handle index places : List ℕ) (r : ℕ) (after filled : List ℕ) : Type 0 where
  pub short : length handle < 19 → (r ≡ 16) × (after ≡ places) × (filled ≡ index)
  pub whole : 19 ≤ length handle → Fills (of_index s (opened_in handle) index) places (index_numbers s (opened_in handle)) index r after filled

-- ---- by a handle and an index

abbrev pub HandsIndexedSample : List ℕ → List ℕ → List ℕ → ℕ → List ℤ → ℕ → List ℤ → Type 0
HandsIndexedSample s handle index n places r after =
    HandsBy {X = Result Sample Refusal} handle (SampleByIndex s (opened_in handle) index n)
    (λ a. SignedAnswers (sample_numbers a) places r after) places r after

abbrev pub HandsIndexedNumber : List ℕ → List ℕ → List ℕ → ℕ → List ℕ → ℕ → List ℕ → Type 0
HandsIndexedNumber s handle index t places r after =
    HandsBy {X = Result Numbered Refusal} handle (NumberByIndex s (opened_in handle) index (media t))
    (λ a. Answers (number_numbers a) places r after) places r after

-- ---- the three together

-- by a handle and an index in these places each question hands over what it does without them
pub record SameByIndex (s : List ℕ) (w : Source) (id : ℕ) (handle index : List ℕ) : Type 0 where
  pub sample : (n : ℕ) (places : List ℤ) (r : ℕ) (after : List ℤ) → HandsIndexedSample s handle index n places r after
      → SignedAnswers (of_sample s w id n) places r after
  pub number : (t : ℕ) (places : List ℕ) (r : ℕ) (after : List ℕ) → HandsIndexedNumber s handle index t places r after
      → Answers (of_sample_at s w id t) places r after
