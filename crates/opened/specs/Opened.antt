-- A track opened once, and the questions put by the handle: exact for the film and track that it was opened in, and safe for any other.
use Rattle.std.specs.Prelude.{ℕ, ◌≤◌, ◌<◌, ◌^◌, ◌≡◌, List, Option, Some, Result, Ok, Err}
use Rattle.structure.specs.declared.source.Source.{Source}
use Rattle.structure.specs.Track.{scale_of, elst_of, samples_of, chunks_of}
use Rattle.structure.specs.Movie.{moov_of, movie_scale}
use Rattle.track.specs.Refusals.{total_in}
use Rattle.edits.specs.Edits.{media_at}
use Rattle.edits.specs.declared.MediaTime.{MediaTime}
use Rattle.edits.specs.declared.MovieTime.{MovieTime}
use Rattle.places.specs.Places.{part_in, AreTables}
use Rattle.questions.specs.Asked.{ask_refusal, track_asked}
use Rattle.questions.specs.Said.{sample_said}
use Rattle.questions.specs.Samples.{Samples}
use Rattle.questions.specs.declared.samples.Sample.{Sample}
use Rattle.time_questions.specs.Said.{number_said}
use Rattle.time_questions.specs.Times.{SampleAt, to_answer, Maps}
use Rattle.time_questions.specs.declared.Numbered.{Numbered}
use Rattle.refusals.specs.Refusals.{refused, code}
use Rattle.refusals.specs.declared.Refusal.{Refusal}
use Rattle.refusals.specs.declared.Refusal.TheVariants.{Outside}
use Rattle.opened.specs.declared.Opened.{Opened}

-- h is a handle of that track of the film s, lent by the source w, where neither is refused. Where a table is absent its part may be any empty one
pub record Opens (s : List ℕ) (w : Source) (id : ℕ) (h : Opened) : Type 0 where
  pub asked : ask_refusal s w id ≡ 0
  pub tables : AreTables s (track_asked s id) h.tables
  pub elst : part_in s h.elst ≡ elst_of (track_asked s id)
  pub samples : h.samples ≡ samples_of (track_asked s id)
  pub chunks : h.chunks ≡ chunks_of (track_asked s id)
  pub scale : h.scale ≡ scale_of (track_asked s id)
  pub movie : h.movie ≡ movie_scale (moov_of s)
  pub total : h.total ≡ total_in (track_asked s id)

-- ---- opening: refused as any question of the track is, by the film's number or 14

-- some handle of the track
pub record HandleOf (s : List ℕ) (w : Source) (id : ℕ) (r : Result Opened Refusal) : Type 0 where
  pub handle : Opened
  pub answer : r ≡ Ok handle
  pub opens : Opens s w id handle

-- the promise of `Opened::of`
pub record OpenAnswers (s : List ℕ) (w : Source) (id : ℕ) (r : Result Opened Refusal) : Type 0 where
  -- the number for each case: of a refusal its own, else 0
  pub number : code r ≡ ask_refusal s w id
  pub refused : (ask_refusal s w id ≡ 0 → ⊥) → r ≡ refused (ask_refusal s w id)
  pub opened : ask_refusal s w id ≡ 0 → HandleOf s w id r

-- ---- by a handle: the question's own promise where the handle is of the film lent (`right`). Of a handle of another film, or of no film, the
-- answer may differ from one correct program to another; this one's is what the bytes at the handle's places say (`said`), of which the other
-- fields hold

pub record SampleBy (s : List ℕ) (h : Opened) (n : ℕ) (r : Result Sample Refusal) : Type 0 where
  pub right : (w : Source) (id : ℕ) → Opens s w id h → Samples s w id n r
  pub said : r
      ≡ sample_said (part_in s h.tables.stts) (part_in s h.tables.ctts) (part_in s h.tables.stsc) (part_in s h.tables.stsz)
      (part_in s h.tables.offsets) (part_in s h.tables.stss) h.samples h.chunks n
  pub elsewhere : (e : Refusal) → r ≡ Err e → e ≡ Outside
  pub few : (x : Sample) → r ≡ Ok x → (0 < n) × (n ≤ h.samples)
  pub low : (x : Sample) → r ≡ Ok x → (x.decode < 2 ^ 32) × (x.chunk ≤ h.chunks) × (x.offset < 2 ^ 63)

pub record NumberBy (s : List ℕ) (h : Opened) (t : MediaTime) (r : Result Numbered Refusal) : Type 0 where
  pub right : (w : Source) (id : ℕ) → Opens s w id h → SampleAt s w id t r
  pub said : r ≡ number_said (part_in s h.tables.stts) h.samples t
  pub elsewhere : (e : Refusal) → r ≡ Err e → e ≡ Outside
  pub few : (n : Numbered) → r ≡ Ok n → (0 < n.sample) × (n.sample ≤ h.samples)

pub record TimeBy (s : List ℕ) (h : Opened) (t : MovieTime) (r : Result (Option MediaTime) Refusal) : Type 0 where
  pub right : (w : Source) (id : ℕ) → Opens s w id h → Maps s w id t r
  pub said : r ≡ to_answer (media_at h.scale h.movie h.total (part_in s h.elst) t)
  pub elsewhere : (e : Refusal) → r ≡ Err e → e ≡ Outside
  pub low : (m : MediaTime) → r ≡ Ok (Some m) → m.0 < h.total
