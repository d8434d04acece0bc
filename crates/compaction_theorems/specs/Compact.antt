-- What holds of a compact film, `compact_film s`: the film s with its tables closed up. Document 02, Ask 13. s is a film that is not refused, whole or
-- a moov alone, as its source w says. A refused film is not closed up.
use Rattle.std.specs.Prelude.{ℕ, ◌+◌, ◌-◌, ◌*◌, ◌≤◌, ◌<◌, ◌≡◌, ◌⊎◌, List, [], ◌∷◌, ◌++◌, map, true, cond, length, take, drop, get_or, eqb}
use Rattle.atoms.specs.Kinds.{stbl, stts, stsc}
use Rattle.atoms.specs.Atoms.{atoms}
use Rattle.lists.specs.Lists.{Run, expand}
use Rattle.runs.specs.Runs.{runs_of, per_sample}
use Rattle.chunks.specs.Chunks.{Deal, deals, dealt, per_chunk, description_ids}
use Rattle.structure.specs.declared.source.Source.{Source}
use Rattle.structure.specs.Source.{whole_file, moov_alone, strictly}
use Rattle.structure.specs.Track.{table_of, stbl_of, samples_of, chunks_of}
use Rattle.structure.specs.Movie.{moov_of, tracks_of}
use Rattle.movie.specs.Rooms.{room_after}
use Rattle.movie.specs.Refusals.{film_refusal}
use Rattle.top_level.specs.declared.Next.TheVariants.{Found}
use Rattle.top_level.specs.TopLevel.{walked}
use Rattle.edits.specs.declared.MediaTime.{MediaTime}
use Rattle.time_questions.specs.Times.{at_entry}
use Rattle.questions.specs.Asked.{track_asked}
use Rattle.questions.specs.Samples.{sample_refusal, sample_answer, bytes_start, sample_bytes}
use Rattle.questions.specs.declared.samples.Sample.{Sample}
use Rattle.stepping.specs.Stepping.{Stands}
use Rattle.stepping.specs.declared.Stepper.{Stepper}
use Rattle.stepping.specs.declared.Step.{Step}
use Rattle.stepping_theorems.specs.Walked.{Walks, Keeps}
use Rattle.compact_tables.specs.Tables.{compact_table, free_atom, tables_of}
use Rattle.compaction.specs.Compaction.{compact_film, compact_moov, compact_refusal, compact_answer}
use Rattle.ways.specs.Ways.{moov_atom}
use Rattle.ways.specs.Agree.{SameAnswers}

-- ---- "Write the moov atom anew into lent room of its own length .. So no offset moves"

-- the file s with the bytes m in place of its moov, which has `size` bytes from `at` on
abbrev pub with_moov : List ℕ → ℕ → ℕ → List ℕ → List ℕ
with_moov s at size m = take at s ++ (m ++ drop (at + size) s)

pub record InPlace (s : List ℕ) (w : Source) : Type 0 where
  pub as_long : film_refusal s w ≡ 0 → length (compact_moov s) ≡ length (moov_atom s)
  -- the walk over the top level finds the film's moov, and the compact film is the film with what is written in its place
  pub found : film_refusal s w ≡ 0 → (at : ℕ) × (walked s ≡ Found at (length (moov_atom s)))
  pub place : (at size : ℕ) → film_refusal s w ≡ 0 → walked s ≡ Found at size
      → (size ≡ length (moov_atom s)) × (compact_film s ≡ with_moov s at size (compact_moov s))
  -- of a moov alone it is these bytes
  pub alone : film_refusal s w ≡ 0 → w.alone ≡ true → compact_film s ≡ compact_moov s
  -- what is written is the moov of the compact film
  pub moov : film_refusal s w ≡ 0 → moov_atom (compact_film s) ≡ compact_moov s

-- ---- "every question gets the same answer before and after, but for Ask 3's positions, Ask 8's count and sample bytes that lie inside moov"

-- the byte with index i does not lie in the size bytes from `at` on
abbrev pub Outside : ℕ → ℕ → ℕ → Type 0
Outside at size i = (i < at) ⊎ (at + size ≤ i)

-- steppers (Ask 3) of the film s, lent by the source w, and of the film m, lent by v: their positions, p and q, may differ, and their answers do not
pub record SameSteps (s : List ℕ) (w : Source) (m : List ℕ) (v : Source) : Type 0 where
  -- "Refusals: the file's, 14, then 15 for a start outside 1 to N"
  pub start : (id n : ℕ) → sample_refusal m v id n ≡ sample_refusal s w id n
  pub samples : (id : ℕ) → samples_of (track_asked m id) ≡ samples_of (track_asked s id)
  -- "Started at any sample, its answers": f steps from p and g from q, both before sample n; they give the same samples, and then done
  pub steps : (id n : ℕ) (f g : Stepper → Step) (p q : Stepper) → 1 ≤ n → Keeps s w id f → Keeps m v id g
      → Stands s w id (n - 1) p → Stands m v id (n - 1) q → (xs : List Sample) × Walks f p xs × Walks g q xs

-- compaction (Ask 13) asked of each of them: the answer, and the room after it
abbrev pub SameCompaction : List ℕ → Source → List ℕ → Source → Type 0
SameCompaction s w m v =
    (room : List ℕ) → (compact_answer m v room ≡ compact_answer s w room)
    × (room_after (compact_refusal m v room) (compact_moov m) room ≡ room_after (compact_refusal s w room) (compact_moov s) room)

pub record SameAfter (s : List ℕ) (w : Source) : Type 0 where
  -- refusals and answers, the film return, the quay film profile and the profile check too
  pub default : film_refusal s w ≡ 0 → SameAnswers s w (compact_film s) w
  -- also where strict reading refuses the film (11)
  pub strict : film_refusal s w ≡ 0 → SameAnswers s (strictly w) (compact_film s) (strictly w)
  -- a stepper's answers: "but for Ask 3's positions"
  pub steps : film_refusal s w ≡ 0 → SameSteps s w (compact_film s) w
  pub strict_steps : film_refusal s w ≡ 0 → SameSteps s (strictly w) (compact_film s) (strictly w)
  -- compaction itself, asked again: "closing up twice is closing up once"
  pub again : film_refusal s w ≡ 0 → SameCompaction s w (compact_film s) w
  pub strict_again : film_refusal s w ≡ 0 → SameCompaction s (strictly w) (compact_film s) (strictly w)
  -- Ask 8's count, "the position, from 1, of the entry that holds the answered sample": never more
  pub count : (id : ℕ) (t : MediaTime) → film_refusal s w ≡ 0 → at_entry (compact_film s) id t ≤ at_entry s id t
  -- the walk over the top level
  pub walk : film_refusal s w ≡ 0 → walked (compact_film s) ≡ walked s
  -- sample bytes, which a whole file has: as many, and each that stands outside moov is the same
  pub many : (id n : ℕ) → film_refusal s whole_file ≡ 0 → length (sample_bytes (compact_film s) id n) ≡ length (sample_bytes s id n)
  pub bytes : (at size id n i : ℕ) → film_refusal s whole_file ≡ 0 → walked s ≡ Found at size
      → Outside at size (bytes_start (sample_answer s whole_file id n) + i)
      → get_or (sample_bytes (compact_film s) id n) i 0 ≡ get_or (sample_bytes s id n) i 0

-- A file s of any length, asked by its moov alone, which the walk over the top level finds. With what is written in the moov's place it is as long,
-- the walk finds the same place and size, what stands there is what was written, and every question that is asked by it gets the same answer
pub record ByMoov (s : List ℕ) (at size : ℕ) : Type 0 where
  pub same : walked s ≡ Found at size → compact_moov (moov_atom s) ≡ compact_moov s
  pub long : walked s ≡ Found at size → film_refusal (moov_atom s) (moov_alone (length s)) ≡ 0
      → length (with_moov s at size (compact_moov s)) ≡ length s
  pub walk : walked s ≡ Found at size → film_refusal (moov_atom s) (moov_alone (length s)) ≡ 0
      → walked (with_moov s at size (compact_moov s)) ≡ Found at size
  pub moov : walked s ≡ Found at size → film_refusal (moov_atom s) (moov_alone (length s)) ≡ 0
      → moov_atom (with_moov s at size (compact_moov s)) ≡ compact_moov s
  pub default : walked s ≡ Found at size → film_refusal (moov_atom s) (moov_alone (length s)) ≡ 0
      → SameAnswers (moov_atom s) (moov_alone (length s)) (moov_atom (with_moov s at size (compact_moov s)))
      (moov_alone (length (with_moov s at size (compact_moov s))))
  pub strict : walked s ≡ Found at size → film_refusal (moov_atom s) (moov_alone (length s)) ≡ 0
      → SameAnswers (moov_atom s) (strictly (moov_alone (length s))) (moov_atom (with_moov s at size (compact_moov s)))
      (strictly (moov_alone (length (with_moov s at size (compact_moov s)))))

-- ---- "each stts and stsc having the fewest entries that deal out the same samples"; "No shorter table with the same expansion exists"

-- t is the body of a trak, and u what it is in the compact film. A table's expansion is one duration for each sample, or one number of samples and
-- one description ID for each chunk. The runs and entries qs are any, accepted in a film or not
pub record FewestIn (t u : List ℕ) : Type 0 where
  pub same_durations : per_sample (table_of stts u) ≡ per_sample (table_of stts t)
  pub same_samples : per_chunk (table_of stsc u) (chunks_of t) ≡ per_chunk (table_of stsc t) (chunks_of t)
  pub same_ids : description_ids (table_of stsc u) (chunks_of t) ≡ description_ids (table_of stsc t) (chunks_of t)
  pub runs : (qs : List Run) → expand qs ≡ per_sample (table_of stts t) → length (runs_of (table_of stts u)) ≤ length qs
  pub entries : (qs : List Deal) → dealt (λ e. e.per) (chunks_of t) qs ≡ per_chunk (table_of stsc t) (chunks_of t)
      → dealt (λ e. e.id) (chunks_of t) qs ≡ description_ids (table_of stsc t) (chunks_of t) → length (deals (table_of stsc u)) ≤ length qs

-- the body of the trak with index i
abbrev pub trak_at : List ℕ → ℕ → List ℕ
trak_at s i = get_or (tracks_of (moov_of s)) i []

pub record Fewest (s : List ℕ) (w : Source) : Type 0 where
  pub tracks : film_refusal s w ≡ 0 → length (tracks_of (moov_of (compact_film s))) ≡ length (tracks_of (moov_of s))
  pub each : (i : ℕ) → film_refusal s w ≡ 0 → i < length (tracks_of (moov_of s)) → FewestIn (trak_at s i) (trak_at (compact_film s) i)

-- ---- "closing up twice is closing up once"

pub record Twice (s : List ℕ) (w : Source) : Type 0 where
  pub film : film_refusal s w ≡ 0 → compact_film (compact_film s) ≡ compact_film s
  pub moov : film_refusal s w ≡ 0 → compact_moov (compact_film s) ≡ compact_moov s

-- ---- "The bytes freed in a track, if any, become one 'free' atom, zero-filled, last in its stbl (a multiple of four, at least 8)"

-- the bytes freed in an stbl with the body b
abbrev pub freed_in : List ℕ → ℕ
freed_in b = length b - length (tables_of b)

-- b is the body of an stbl, and c what it is in the compact film: "all else copied in order"
pub record Freed (b c : List ℕ) : Type 0 where
  pub as_long : length c ≡ length b
  pub fewer : length (tables_of b) ≤ length b
  pub children : atoms stbl c ≡ map compact_table (atoms stbl b) ++ cond (eqb (freed_in b) 0) ([]) (free_atom (freed_in b) ∷ [])
  pub some : (freed_in b ≡ 0) ⊎ (8 ≤ freed_in b)
  pub four : (k : ℕ) × (freed_in b ≡ 4 * k)

pub record Stbl (s : List ℕ) (w : Source) : Type 0 where
  pub each : (i : ℕ) → film_refusal s w ≡ 0 → i < length (tracks_of (moov_of s)) → Freed (stbl_of (trak_at s i)) (stbl_of (trak_at (compact_film s) i))
