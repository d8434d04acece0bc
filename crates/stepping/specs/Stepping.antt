-- The stepper. Document 02: "a stepper that holds its position in each table by value and hands back the next sample with the new
-- position"; "Started at any sample, its answers equal the sample question's from there to the end, and each step itself moves the position
-- on"; "A step after sample N answers done"; "from a position of another film or track it is safe, and its answer, which may differ from one
-- correct program to another, is named with what holds of it".
use Rattle.std.specs.Prelude.{ℕ, suc, ◌-◌, ◌≤◌, ◌<◌, ◌^◌, ◌≡◌, Option, Some, None, List, [], ◌∷◌, replicate, ℤ, pos, Result, Ok}
use Rattle.atoms.specs.Kinds as kinds
use Rattle.structure.specs.declared.source.Source.{Source}
use Rattle.structure.specs.Track.{table_of, offset_table, samples_of}
use Rattle.track.specs.Track.{track_of}
use Rattle.places.specs.Places.{AreTables}
use Rattle.positions.specs.Moving.{Bytes, StandsAt}
use Rattle.positions.specs.declared.moving.Moving.{Moving}
use Rattle.questions.specs.Asked.{ask_refusal, track_asked}
use Rattle.questions.specs.Samples.{sample_of, sample_refusal, sample_values}
use Rattle.questions.specs.declared.samples.Sample.{Sample}
use Rattle.step_moves.specs.declared.Stepped.{Stepped}
use Rattle.step_moves.specs.Moves.{stepped_on}
use Rattle.stepping.specs.Parts.{bytes_in}
use Rattle.stepping.specs.declared.Stepper.{Stepper}
use Rattle.refusals.specs.Refusals.{refused, code}
use Rattle.refusals.specs.declared.Refusal.{Refusal}
use Rattle.stepping.specs.declared.Step.{Step}
use Rattle.stepping.specs.declared.Step.TheVariants.{Next, Done}

-- the bytes of the sample tables of the track whose trak has the body t
abbrev pub bytes_of : List ℕ → Bytes
bytes_of t =
    record {
      stts = table_of kinds.stts t;
      ctts = table_of kinds.ctts t;
      stsc = table_of kinds.stsc t;
      stsz = table_of kinds.stsz t;
      offsets = offset_table t;
      stss = table_of kinds.stss t;
    }

-- p is a position of that track of the film s, lent by the source w, before the sample with index k, or past all N of them: each place has
-- ahead what its table says from sample k on
pub record Stands (s : List ℕ) (w : Source) (id k : ℕ) (p : Stepper) : Type 0 where
  pub asked : ask_refusal s w id ≡ 0
  pub upto : k ≤ samples_of (track_asked s id)
  pub tables : AreTables s (track_asked s id) p.tables
  pub samples : p.samples ≡ samples_of (track_asked s id)
  pub moving : StandsAt (bytes_of (track_asked s id)) (samples_of (track_asked s id)) k p.moving

-- ---- the start. "Refusals: the file's, 14, then 15 for a start outside 1 to N": those of the sample question

-- a position before sample n, which may be made in more than one way
pub record Begins (s : List ℕ) (w : Source) (id n : ℕ) (r : Result Stepper Refusal) : Type 0 where
  pub position : Stepper
  pub answer : r ≡ Ok position
  pub stands : Stands s w id (n - 1) position

-- the promise of `Stepper::at`
pub record Starts (s : List ℕ) (w : Source) (id n : ℕ) (r : Result Stepper Refusal) : Type 0 where
  -- document 01's number for each case: of a refusal its own, else 0
  pub number : code r ≡ sample_refusal s w id n
  pub refused : (sample_refusal s w id n ≡ 0 → ⊥) → r ≡ refused (sample_refusal s w id n)
  pub started : sample_refusal s w id n ≡ 0 → Begins s w id n r

-- ---- a step

-- the numbers of each case: document 01's values of the sample, and before them a number of this reader's own, 1; done is nine zeros
unfoldable pub step_numbers : Step → List ℤ
step_numbers (Next x q) = pos 1 ∷ sample_values x
step_numbers Done = replicate 9 (pos 0)

-- from before sample k: that sample, and a position past it
pub record Onward (s : List ℕ) (w : Source) (id k : ℕ) (r : Step) : Type 0 where
  pub position : Stepper
  pub answer : r ≡ Next (sample_of (track_of (track_asked s id)) k) position
  pub numbers : step_numbers r ≡ pos 1 ∷ sample_values (sample_of (track_of (track_asked s id)) k)
  pub stands : Stands s w id (suc k) position

-- "without starting again at the tables' head": no place in a table goes back. Places count bytes; in stco or co64 it is the chunks begun
pub record Forward (m n : Moving) : Type 0 where
  pub stts : m.times.at ≤ n.times.at
  pub ctts : m.shifts.at ≤ n.shifts.at
  pub stsc : m.dealt.cursor.at ≤ n.dealt.cursor.at
  pub offsets : m.dealt.chunk ≤ n.dealt.chunk
  pub stss : m.sync ≤ n.sync

-- the answer of any position, by the tables at its places, whatever stands there: the sample and the position moved on, or done
abbrev pub step_as : Stepper → Option Stepped → Step
step_as p (Some m) = Next m.sample (record { tables = p.tables; samples = p.samples; moving = m.past })
step_as p None = Done

unfoldable pub step_said : List ℕ → Stepper → Step
step_said s p = step_as p (stepped_on (bytes_in s p.tables) p.samples p.moving)

-- from any position, also one of another film or track: that answer; done, or some sample, and a position one further on in the same
-- tables, of as many samples. So at most `samples` less `index` steps follow before done
pub record Elsewhere (s : List ℕ) (p : Stepper) (r : Step) : Type 0 where
  pub said : r ≡ step_said s p
  pub moves : (x : Sample) (q : Stepper) → r ≡ Next x q
      → (p.moving.index < p.samples) × (q.moving.index ≡ suc p.moving.index) × (q.samples ≡ p.samples)
  pub same : (x : Sample) (q : Stepper) → r ≡ Next x q → q.tables ≡ p.tables
  pub forward : (x : Sample) (q : Stepper) → r ≡ Next x q → Forward p.moving q.moving
  pub low : (x : Sample) (q : Stepper) → r ≡ Next x q → (x.decode < 2 ^ 32) × (x.chunk < 2 ^ 32) × (x.offset < 2 ^ 63)

-- the promise of `step`
pub record Steps (s : List ℕ) (p : Stepper) (r : Step) : Type 0 where
  pub next : (w : Source) (id k : ℕ) → Stands s w id k p → k < samples_of (track_asked s id) → Onward s w id k r
  pub done : (w : Source) (id : ℕ) → Stands s w id (samples_of (track_asked s id)) p → r ≡ Done
  pub elsewhere : Elsewhere s p r

-- steps one after the other, from p by the samples xs to q: each keeps the promise
abbrev pub Chain : List ℕ → Stepper → List Sample → Stepper → Type 0
Chain s p [] q = p ≡ q
Chain s p (x ∷ xs) q = (m : Stepper) × Steps s p (Next x m) × Chain s m xs q
