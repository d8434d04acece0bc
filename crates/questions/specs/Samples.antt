-- "Sample n" and "Sample bytes".
use Rattle.std.specs.Prelude.{ℕ, suc, ◌+◌, ◌-◌, ◌≡◌, List, [], ◌∷◌, map, false, cond, ◌&&◌, length, get_or, take, drop, ltb, leb, ℤ, pos, ◌+ℤ◌, Result, Ok, Err}
use Rattle.refusals.specs.declared.Refusal.{Refusal}
use Rattle.refusals.specs.Refusals.{number, refused}
use Rattle.std.specs.Borrow.{Bor}
use Rattle.lists.specs.Lists.{before, holder}
use Rattle.chunks.specs.Chunks.{offset_of}
use Rattle.structure.specs.declared.source.Source.{Source}
use Rattle.structure.specs.Source.{whole_file}
use Rattle.structure.specs.Track.{samples_of}
use Rattle.structure.specs.Rows.{or_else}
use Rattle.track.specs.Track.{Track, track_of}
use Rattle.movie.specs.Rooms.{refused_with}
use Rattle.movie.specs.Answers.{given, Gives}
use Rattle.questions.specs.Asked.{ask_refusal, track_asked}
use Rattle.questions.specs.declared.samples.Sample.{Sample}

-- what the tables say of the sample with index i, from 0
unfoldable pub sample_of : Track → ℕ → Sample
sample_of t i =
    record {
      -- "decode time (sum of durations before it), duration"
      decode = before t.durations i;
      duration = get_or t.durations i 0;
      -- "composition time (decode time plus signed offset, 0 without ctts)"
      composition = pos (before t.durations i) +ℤ get_or t.offsets i (pos 0);
      -- "whether sync (all are, without stss)"
      sync = get_or t.syncs i false;
      -- "description ID, chunk": the chunk that the sample is dealt to, numbered from 1, and its ID
      description = get_or t.description_ids (holder t.per_chunk i) 0;
      chunk = suc (holder t.per_chunk i);
      -- "offset (chunk offset plus sizes before it in the chunk), size"
      offset = offset_of t.per_chunk t.chunk_offsets t.sizes i;
      size = get_or t.sizes i 0;
    }

-- "the sample number is not in 1 to N" is 15
unfoldable pub sample_refusal : List ℕ → Source → ℕ → ℕ → ℕ
sample_refusal s w id n = or_else (ask_refusal s w id) (cond (ltb 0 n && leb n (samples_of (track_asked s id))) 0 15)

-- what is answered where nothing is refused
abbrev pub sample_asked : List ℕ → ℕ → ℕ → Result Sample Refusal
sample_asked s id n = Ok (sample_of (track_of (track_asked s id)) (n - 1))

abbrev pub sample_answer : List ℕ → Source → ℕ → ℕ → Result Sample Refusal
sample_answer s w id n = given (sample_refusal s w id n) (sample_asked s id n) refused

-- document 01's number and values for each case of the answer; the number is 0 where nothing is refused, and sync is 1 or 0
abbrev pub sample_values : Sample → List ℤ
sample_values x =
    pos x.decode
    ∷ pos x.duration
    ∷ x.composition
    ∷ pos (cond x.sync 1 0)
    ∷ pos x.description
    ∷ pos x.chunk
    ∷ pos x.offset
    ∷ pos x.size
    ∷ []

unfoldable pub sample_zeros : ℕ → List ℤ
sample_zeros r = map pos (refused_with 8 r)

unfoldable pub sample_numbers : Result Sample Refusal → List ℤ
sample_numbers (Ok x) = pos 0 ∷ sample_values x
sample_numbers (Err e) = sample_zeros (number e)

-- the promise of the question: the answer r
abbrev pub Samples : List ℕ → Source → ℕ → ℕ → Result Sample Refusal → Type 0
Samples s w id n r = Gives sample_numbers sample_zeros refused (sample_refusal s w id n) (sample_asked s id n) r

-- ---- "the sample's own bytes, as they stand in the file lent"

-- where they begin, and how many they are; "on refusal the empty beginning of the file"
unfoldable pub bytes_start : Result Sample Refusal → ℕ
bytes_start (Ok x) = x.offset
bytes_start (Err e) = 0

unfoldable pub bytes_length : Result Sample Refusal → ℕ
bytes_length (Ok x) = x.size
bytes_length (Err e) = 0

unfoldable pub sample_bytes : List ℕ → ℕ → ℕ → List ℕ
sample_bytes s id n = take (bytes_length (sample_answer s whole_file id n)) (drop (bytes_start (sample_answer s whole_file id n)) s)

-- "a part of the lent file; the promise fixes its start and length": a reference's pointer is a block and an offset in it
pub record PartOf (file : Bor (List ℕ)) (start size : ℕ) (r : Bor (List ℕ)) : Type 0 where
  pub bytes : r.now ≡ take size (drop start file.now)
  pub count : length r.now ≡ size
  pub block : r.ref_ptr.0 ≡ file.ref_ptr.0
  pub offset : r.ref_ptr.1 ≡ start + file.ref_ptr.1

-- the promise of the question: the part r
abbrev pub SampleBytes : Bor (List ℕ) → ℕ → ℕ → Bor (List ℕ) → Type 0
SampleBytes file id n r =
    PartOf file (bytes_start (sample_answer file.now whole_file id n)) (bytes_length (sample_answer file.now whole_file id n)) r
