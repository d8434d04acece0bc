-- The index of a track, and the questions put by a handle and it: exact for the film and track that was opened and the index that was filled of
-- them, and safe for any other.
use Rattle.std.specs.Prelude.{ℕ, ◌-◌, ◌*◌, ◌≤◌, ◌<◌, ◌^◌, ◌≡◌, List, ◌++◌, length, get_or, take, Result, Ok, Err}
use Rattle.rates.specs.Rates.{round_up}
use Rattle.structure.specs.declared.source.Source.{Source}
use Rattle.runs.specs.Runs.{runs_of}
use Rattle.words.specs.Words.{sizes}
use Rattle.edits.specs.declared.MediaTime.{MediaTime}
use Rattle.places.specs.Places.{part_in}
use Rattle.movie.specs.Rooms.{no_room, room_after}
use Rattle.questions.specs.Samples.{Samples}
use Rattle.questions.specs.declared.samples.Sample.{Sample}
use Rattle.refusals.specs.declared.Refusal.{Refusal}
use Rattle.refusals.specs.declared.Refusal.TheVariants.{Outside, NoRoom}
use Rattle.time_questions.specs.Times.{SampleAt}
use Rattle.time_questions.specs.declared.Numbered.{Numbered}
use Rattle.opened.specs.Opened.{Opens}
use Rattle.opened.specs.declared.Opened.{Opened}
use Rattle.checkpoints.specs.Points.{point_numbers}
use Rattle.chunk_lookups.specs.From.{deal_runs}

-- one checkpoint for each 64 samples begun
abbrev pub checkpoints_of : ℕ → ℕ
checkpoints_of samples = round_up samples 64

-- the numbers of the index: the checkpoints of stts, then of ctts, then of stsc
unfoldable pub index_numbers : List ℕ → Opened → List ℕ
index_numbers s h =
    point_numbers (runs_of (part_in s h.tables.stts)) (checkpoints_of h.samples)
    ++ point_numbers (runs_of (part_in s h.tables.ctts)) (checkpoints_of h.samples)
    ++ point_numbers (deal_runs (part_in s h.tables.stsc) h.chunks) (checkpoints_of h.samples)

-- how many they are
abbrev pub index_length : Opened → ℕ
index_length h = 6 * checkpoints_of h.samples

-- the promise of `index_into`, of any film and handle: 16 for a room that is shorter, which stays as it is; else its first places are filled
pub record IndexInto (s : List ℕ) (h : Opened) (room : List ℕ) (r : ℕ) (after : List ℕ) : Type 0 where
  pub result : r ≡ no_room (index_numbers s h) room
  pub filled : after ≡ room_after r (index_numbers s h) room

-- ---- by a handle and an index

-- the index begins with the numbers of the index of what is lent and the handle
abbrev pub Indexes : List ℕ → Opened → List ℕ → Type 0
Indexes s h index = take (index_length h) index ≡ index_numbers s h

-- the question's own promise where the handle is of the film lent and the index is theirs (`right`); too short an index is refused 16. Of any
-- other the answer may differ from one correct program to another; of it holds what the other fields say: the size, say, never depends on the index
pub record SampleByIndex (s : List ℕ) (h : Opened) (index : List ℕ) (n : ℕ) (r : Result Sample Refusal) : Type 0 where
  pub right : (w : Source) (id : ℕ) → Opens s w id h → Indexes s h index → Samples s w id n r
  pub short : length index < index_length h → r ≡ Err NoRoom
  pub elsewhere : index_length h ≤ length index → (e : Refusal) → r ≡ Err e → e ≡ Outside
  pub few : (x : Sample) → r ≡ Ok x → (0 < n) × (n ≤ h.samples)
  pub low : (x : Sample) → r ≡ Ok x → (x.decode < 2 ^ 32) × (x.chunk ≤ h.chunks) × (x.offset < 2 ^ 63)
  pub size : (x : Sample) → r ≡ Ok x → x.size ≡ get_or (sizes (part_in s h.tables.stsz)) (n - 1) 0

pub record NumberByIndex (s : List ℕ) (h : Opened) (index : List ℕ) (t : MediaTime) (r : Result Numbered Refusal) : Type 0 where
  pub right : (w : Source) (id : ℕ) → Opens s w id h → Indexes s h index → SampleAt s w id t r
  pub short : length index < index_length h → r ≡ Err NoRoom
  pub elsewhere : index_length h ≤ length index → (e : Refusal) → r ≡ Err e → e ≡ Outside
  pub few : (n : Numbered) → r ≡ Ok n
      → (0 < n.sample) × (n.sample ≤ h.samples) × (0 < n.entry) × (n.entry ≤ length (runs_of (part_in s h.tables.stts)))
