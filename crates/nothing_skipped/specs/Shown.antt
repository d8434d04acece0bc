-- Document 02, Ask 14, "Nothing skipped in an edited film", of the answers that movie time to media time, sample at media time and sample n give. k
-- counts the entries of an edit list from 0, t, u and v are movie times, n, p and j are sample numbers.
use Rattle.std.specs.Prelude.{ℕ, suc, ◌≤◌, ◌<◌, ◌≡◌, List, ℤ, pos, negsuc, get_or, Option, Some, Result, Ok}
use Rattle.lists.specs.Lists.{before}
use Rattle.edits.specs.Edits.{edits, durations_of}
use Rattle.edits.specs.declared.Edit.{Edit}
use Rattle.edits.specs.declared.MediaTime.{MediaTime}
use Rattle.structure.specs.declared.source.Source.{Source}
use Rattle.structure.specs.Track.{scale_of, elst_of}
use Rattle.structure.specs.Movie.{moov_of, movie_scale}
use Rattle.questions.specs.Asked.{ask_refusal, track_asked}
use Rattle.questions.specs.Samples.{sample_answer}
use Rattle.time_questions.specs.Times.{at_answer, map_answer}
use Rattle.questions.specs.declared.samples.Sample.{Sample}
use Rattle.refusals.specs.declared.Refusal.{Refusal}
use Rattle.time_questions.specs.declared.Numbered.{Numbered}

-- the entries of the edit list of the track that is asked; past the last one there is none that shows media
abbrev pub no_entry : Edit
no_entry = record { duration = 0; media = negsuc 0; rate = 0 }

abbrev pub entries_of : List ℕ → ℕ → List Edit
entries_of s id = edits (elst_of (track_asked s id))

abbrev pub entry_at : List ℕ → ℕ → ℕ → Edit
entry_at s id k = get_or (entries_of s id) k no_entry

-- document 01: "Entries follow one another from movie time 0": where entry k starts
abbrev pub start_at : List ℕ → ℕ → ℕ → ℕ
start_at s id k = before (durations_of (entries_of s id)) k

-- t is "inside one edit entry that shows media", the entry k: its media time is not negative
pub record Inside (s : List ℕ) (id k t : ℕ) : Type 0 where
  pub from : start_at s id k ≤ t
  pub to : t < start_at s id (suc k)
  pub first : ℕ
  pub shows : (entry_at s id k).media ≡ pos first

-- "the sample numbers met": n is met at t, where t shows a media time, and the sample at that media time is n
pub record Met (s : List ℕ) (w : Source) (id t n : ℕ) : Type 0 where
  pub media : MediaTime
  pub shown : map_answer s w id (record { 0 = t }) ≡ Ok (Some media)
  pub entry : ℕ
  pub named : at_answer s w id media ≡ Ok (record { sample = n; entry = entry })

-- j is met at a time of the entry k, from t to u
pub record MetBetween (s : List ℕ) (w : Source) (id k t u j : ℕ) : Type 0 where
  pub at : ℕ
  pub from : t ≤ at
  pub to : at ≤ u
  pub inside : Inside s id k at
  pub met : Met s w id at j

pub record OfTrack (s : List ℕ) (w : Source) (id : ℕ) : Type 0 where
  -- each time inside the entry meets a sample,
  pub meets : (k t : ℕ) → Inside s id k t → (n : ℕ) × Met s w id t n
  -- "the sample numbers met as movie time runs on never fall",
  pub rises : (k t u n p : ℕ) → Inside s id k t → Inside s id k u → t ≤ u → Met s w id t n → Met s w id u p → n ≤ p
  -- and "where the media scale is at most the movie scale, no sample of non-zero duration between the first and last met is passed over"
  pub none_passed : scale_of (track_asked s id) ≤ movie_scale (moov_of s)
      → (k t u n p j : ℕ) (x : Sample) → Inside s id k t → Inside s id k u → t ≤ u → Met s w id t n
      → Met s w id u p → n ≤ j → j ≤ p
      → sample_answer s w id j ≡ Ok x → 0 < x.duration → MetBetween s w id k t u j

-- of every track of a film that is not refused
abbrev pub NothingSkipped : List ℕ → Source → Type 0
NothingSkipped s w = (id : ℕ) → ask_refusal s w id ≡ 0 → OfTrack s w id
