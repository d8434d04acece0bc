-- Demand 3 as one claim, of every track of a film that is not refused; w is the source of the film s. It speaks of any results that keep the
-- promises of the questions: `Samples` of the sample question, `SampleAt` of the time question, `Stretches` of the stretch question. Those are the
-- contracts of the functions, so the claim holds of what the functions return.
use Rattle.std.specs.Prelude.{ℕ, suc, ◌+◌, ◌*◌, ◌-◌, ◌≤◌, ◌<◌, ◌≡◌, List, [], map, length, get_or, Result, Ok, Err}
use Rattle.lists.specs.Lists.{sum, before, up_to, part}
use Rattle.edits.specs.declared.MediaTime.{MediaTime}
use Rattle.structure.specs.declared.source.Source.{Source}
use Rattle.structure.specs.Track.{id_of, samples_of, chunks_of}
use Rattle.structure.specs.Movie.{moov_of, tracks_of}
use Rattle.movie.specs.Refusals.{film_refusal}
use Rattle.questions.specs.Asked.{ask_refusal, track_asked}
use Rattle.questions.specs.Samples.{Samples}
use Rattle.time_questions.specs.Times.{SampleAt}
use Rattle.stretch.specs.Stretches.{Stretches}
use Rattle.questions.specs.declared.samples.Sample.{Sample}
use Rattle.theorems.specs.Entries.{stts_entries, sample_duration, counted_by, media_total, stsc_entries, first_chunk, samples_per_chunk}
use Rattle.theorems.specs.Entries.{chunk_offset, sample_size}
use Rattle.refusals.specs.Refusals.{refused}
use Rattle.refusals.specs.declared.Refusal.{Refusal}
use Rattle.time_questions.specs.declared.Numbered.{Numbered}
use Rattle.stretch.specs.declared.StretchTotals.{StretchTotals}

-- ---- the words of the claim; t is the body of a track's trak

-- "A sample's media times run from its decode time, its start, to just before decode time plus duration": time is one of them
pub record HasTime (x : Sample) (time : ℕ) : Type 0 where
  pub from : x.decode ≤ time
  pub to : time < x.decode + x.duration

-- entry k of stts counts the sample with the number n
pub record Counts (t : List ℕ) (k n : ℕ) : Type 0 where
  pub there : k < stts_entries t
  pub after : counted_by t k < n
  pub upto : n ≤ counted_by t (suc k)

-- "An stsc entry holds from its first chunk up to the next entry's, the last one for all that remain": entry k holds for the chunk with the number c
pub record HoldsFor (t : List ℕ) (k c : ℕ) : Type 0 where
  pub there : k < stsc_entries t
  pub from : first_chunk t k ≤ c
  pub to : suc k < stsc_entries t → c < first_chunk t (suc k)

-- "as many as its stsc entry says": ps has one number for each chunk, that of the stsc entry which holds for it, and together they are N
pub record Deals (t ps : List ℕ) : Type 0 where
  pub chunks : length ps ≡ chunks_of t
  pub each : (c : ℕ) → 1 ≤ c → c ≤ chunks_of t → (k : ℕ) × HoldsFor t k c × (get_or ps (c - 1) 0 ≡ samples_per_chunk t k)
  pub all : sum ps ≡ samples_of t

-- "Chunk after chunk gets the next samples", ps being how many: the chunk with the number c gets the sample with the number n. The chunks before it
-- get fewer than n samples, and with it they get n or more
pub record DealtTo (ps : List ℕ) (c n : ℕ) : Type 0 where
  pub first : 1 ≤ c
  pub last : c ≤ length ps
  pub after : before ps (c - 1) < n
  pub upto : n ≤ before ps c

-- "Its part in a stretch is how many of them are at least a and below b", of the sample that is answered; a refusal has none
abbrev pub part_in : ℕ → ℕ → Result Sample Refusal → ℕ
part_in a b (Ok x) = part a b x.decode x.duration
part_in a b (Err e) = 0

-- its bytes
abbrev pub size_answered : Result Sample Refusal → ℕ
size_answered (Ok x) = x.size
size_answered (Err e) = 0

-- how many numbers there are from first to last, "all numbers between included"
abbrev pub how_many : ℕ → ℕ → ℕ
how_many first last = suc last - first

-- the result of each number from first to last keeps the promise of the sample question
abbrev pub AllSamples : List ℕ → Source → ℕ → (ℕ → Result Sample Refusal) → ℕ → ℕ → Type 0
AllSamples s w id rs first last = (n : ℕ) → first ≤ n → n ≤ last → Samples s w id n (rs n)

-- what f takes from the results of these numbers, added
abbrev pub added : (ℕ → Result Sample Refusal) → (Result Sample Refusal → ℕ) → ℕ → ℕ → ℕ
added rs f first last = sum (map (λ i. f (rs (first + i))) (up_to (how_many first last)))

-- no sample of zero duration stands at the time m
abbrev pub NoZeroDuration : List ℕ → Source → ℕ → ℕ → Type 0
NoZeroDuration s w id m = (n : ℕ) (x : Sample) → Samples s w id n (Ok x) → x.decode ≡ m → 0 < x.duration

-- ---- the claim, of the track whose trak has the body t

pub record OfTrack (s t : List ℕ) (w : Source) : Type 0 where
  -- asked by its own ID the track is not refused, and it is this very one
  pub asked : ask_refusal s w (id_of t) ≡ 0
  pub itself : track_asked s (id_of t) ≡ t
  -- the samples are those numbered 1 to N, and stts counts as many
  pub found : (n : ℕ) → 1 ≤ n → n ≤ samples_of t → (r : Result Sample Refusal) → Samples s w (id_of t) n r → (x : Sample) × (r ≡ Ok x)
  pub none : (r : Result Sample Refusal) → Samples s w (id_of t) 0 r → r ≡ refused 15
  pub past : (n : ℕ) → samples_of t < n → (r : Result Sample Refusal) → Samples s w (id_of t) n r → r ≡ refused 15
  pub counted : counted_by t (stts_entries t) ≡ samples_of t
  -- "decode time (sum of durations before it)": the first starts at 0, and each other one where the one before it ends
  pub starts : (x : Sample) → Samples s w (id_of t) 1 (Ok x) → x.decode ≡ 0
  pub follows : (n : ℕ) (x y : Sample) → Samples s w (id_of t) n (Ok x) → Samples s w (id_of t) (suc n) (Ok y)
      → y.decode ≡ x.decode + x.duration
  -- each has the duration of the stts entry that counts it, and its size in stsz
  pub lasts : (n : ℕ) (x : Sample) → Samples s w (id_of t) n (Ok x)
      → (k : ℕ) × Counts t k n × (x.duration ≡ sample_duration t k)
  pub sized : (n : ℕ) (x : Sample) → Samples s w (id_of t) n (Ok x) → x.size ≡ sample_size t n
  -- "each media time below the total belongs to exactly one sample, and asked for it the reader names it", with "the position, from 1, of the entry
  -- that holds the answered sample, which is never above the number of stts entries"
  pub named : (time : MediaTime) → time.0 < media_total t → (r : Result Numbered Refusal) → SampleAt s w (id_of t) time r
      → (n : ℕ) × (k : ℕ) × (r ≡ Ok (record { sample = n; entry = (suc k) })) × Counts t k n
      × ((q : Result Sample Refusal) → Samples s w (id_of t) n q → (x : Sample) × (q ≡ Ok x) × HasTime x time.0)
      × ((m : ℕ) (y : Sample) → Samples s w (id_of t) m (Ok y) → HasTime y time.0 → m ≡ n)
  -- any other belongs to none, and is refused
  pub outside : (time : MediaTime) → media_total t ≤ time.0
      → ((r : Result Numbered Refusal) → SampleAt s w (id_of t) time r → r ≡ refused 15)
      × ((m : ℕ) (y : Sample) → Samples s w (id_of t) m (Ok y) → HasTime y time.0 → ⊥)
  -- "samples are dealt to chunks in order, none left over, none twice": each chunk gets as many as its stsc entry says, which fixes this list,
  pub per_chunk : List ℕ
  pub deals : Deals t per_chunk
  -- a sample is answered with the chunk that gets it,
  pub in_chunk : (n : ℕ) (x : Sample) → Samples s w (id_of t) n (Ok x) → DealtTo per_chunk x.chunk n
  -- and what a chunk gets are samples, answered with that chunk and so with no other
  pub gets : (c n : ℕ) → DealtTo per_chunk c n → (r : Result Sample Refusal) → Samples s w (id_of t) n r → (x : Sample) × (r ≡ Ok x) × (x.chunk ≡ c)
  -- "byte ranges in a chunk are contiguous from the chunk's offset": the first sample of a chunk begins where stco, or co64, says of it,
  pub first-in : (c : ℕ) → 1 ≤ c → c ≤ chunks_of t
      → (r : Result Sample Refusal) → Samples s w (id_of t) (suc (before per_chunk (c - 1))) r
      → (x : Sample) × (r ≡ Ok x) × (x.chunk ≡ c) × (x.offset ≡ chunk_offset t c)
  -- and each other one where the one before it ends. "Its byte range begins at its offset and is as long as its size"
  pub next_in : (n : ℕ) (x y : Sample) → Samples s w (id_of t) n (Ok x)
      → Samples s w (id_of t) (suc n) (Ok y) → x.chunk ≡ y.chunk
      → y.offset ≡ x.offset + x.size
  -- "the parts of the track's samples inside a stretch add up to its length": of all of them, 1 to N
  pub parts : (a b : ℕ) → a < b → b ≤ media_total t → (rs : ℕ → Result Sample Refusal) → AllSamples s w (id_of t) rs 1 (samples_of t)
      → added rs (part_in a b) 1 (samples_of t) ≡ b - a
  -- each stretch is answered in any room for its k pairs, and refused 16 in any less; what is none is refused 15
  pub answered : (a b : MediaTime) → a.0 < b.0 → b.0 ≤ media_total t
      → (k : ℕ) × (bytes : ℕ)
      × ((room : List ℕ) → 2 * k ≤ length room → (r : Result StretchTotals Refusal) (after : List ℕ) → Stretches s w (id_of t) a b room r after
      → r ≡ Ok (record { pairs = k; bytes = bytes }))
      × ((room : List ℕ) → length room < 2 * k → (r : Result StretchTotals Refusal) (after : List ℕ) → Stretches s w (id_of t) a b room r after
      → r ≡ refused 16)
  pub refused : (a b : MediaTime) → ((a.0 < b.0) × (b.0 ≤ media_total t) → ⊥) → (room : List ℕ)
      → (r : Result StretchTotals Refusal) (after : List ℕ) → Stretches s w (id_of t) a b room r after → r ≡ refused 15
  -- "One pair (offset, length) for each chunk touched": from the chunk of the sample at a to that of the sample at b - 1
  pub pairs : (a b z : MediaTime) (room after : List ℕ) (k total first last i j : ℕ) (x y : Sample)
      → Stretches s w (id_of t) a b room (Ok (record { pairs = k; bytes = total })) after
      → z.0 ≡ b.0 - 1 → SampleAt s w (id_of t) a (Ok (record { sample = first; entry = i })) → SampleAt s w (id_of t) z (Ok (record { sample = last; entry = j }))
      → Samples s w (id_of t) first (Ok x) → Samples s w (id_of t) last (Ok y) → k ≡ suc y.chunk - x.chunk
  -- "The bytes of a stretch are its answered total: the sizes of all samples included, added", those "from the one at a to the one at b-1"
  pub bytes : (a b z : MediaTime) (room after : List ℕ) (k total first last i j : ℕ) → Stretches s w (id_of t) a b room (Ok (record { pairs = k; bytes = total })) after
      → z.0 ≡ b.0 - 1 → SampleAt s w (id_of t) a (Ok (record { sample = first; entry = i })) → SampleAt s w (id_of t) z (Ok (record { sample = last; entry = j }))
      → (rs : ℕ → Result Sample Refusal) → AllSamples s w (id_of t) rs first last → total ≡ added rs size_answered first last
  -- "a stretch cut at a sample's start gives bytes that add up": the cut m is the start of a sample, strictly inside, and each of the three has
  -- room. A sample of zero duration that stands at m would be in the whole and in neither part, so that there may be none there
  pub cut : (a m b : MediaTime) → NoZeroDuration s w (id_of t) m.0 → (n : ℕ) (x : Sample)
      → Samples s w (id_of t) n (Ok x) → m.0 ≡ x.decode
      → a.0 < m.0 → m.0 < b.0 → (room₁ room₂ room after₁ after₂ after : List ℕ) (k₁ k₂ k bytes₁ bytes₂ bytes : ℕ)
      → Stretches s w (id_of t) a m room₁ (Ok (record { pairs = k₁; bytes = bytes₁ })) after₁
      → Stretches s w (id_of t) m b room₂ (Ok (record { pairs = k₂; bytes = bytes₂ })) after₂
      → Stretches s w (id_of t) a b room (Ok (record { pairs = k; bytes = bytes })) after
      → bytes ≡ bytes₁ + bytes₂

-- "In every accepted track": "An accepted track is a track of a file not refused", the one at i of its traks, in file order from 0. "Demand 3
-- keeps to the sample total": the stored duration plays no part
abbrev pub Demand3 : List ℕ → Source → Type 0
Demand3 s w = film_refusal s w ≡ 0 → (i : ℕ) → i < length (tracks_of (moov_of s)) → OfTrack s (get_or (tracks_of (moov_of s)) i []) w
