-- "Sample at media time t" and "Movie time t to media time".
use Rattle.std.specs.Prelude.{ℕ, suc, List, [], ◌∷◌, cond, ltb, Option, Some, None, Result, Ok, Err}
use Rattle.atoms.specs.Kinds.{stts}
use Rattle.lists.specs.Lists.{holder}
use Rattle.runs.specs.Runs.{runs_of, entry_of}
use Rattle.edits.specs.Edits.{media_at}
use Rattle.edits.specs.declared.MediaTime.{MediaTime}
use Rattle.edits.specs.declared.MovieTime.{MovieTime}
use Rattle.edits.specs.declared.Mapped.{Mapped}
use Rattle.edits.specs.declared.Mapped.TheVariants.{Media, Nothing, Outside}
use Rattle.structure.specs.declared.source.Source.{Source}
use Rattle.structure.specs.Track.{scale_of, table_of, elst_of}
use Rattle.structure.specs.Movie.{moov_of, movie_scale}
use Rattle.structure.specs.Rows.{or_else}
use Rattle.track.specs.Track.{track_of}
use Rattle.track.specs.Refusals.{total_in}
use Rattle.movie.specs.Rooms.{refused_with}
use Rattle.movie.specs.Answers.{given, Gives}
use Rattle.questions.specs.Asked.{ask_refusal, track_asked}
use Rattle.refusals.specs.Refusals.{number, refused}
use Rattle.refusals.specs.declared.Refusal.{Refusal}
use Rattle.time_questions.specs.declared.Numbered.{Numbered}

-- ---- "Sample at media time t: the n with decode time ≤ t < decode time plus duration"

-- where the sample total is not above t "the time .. lies outside": 15
unfoldable pub at_refusal : List ℕ → Source → ℕ → MediaTime → ℕ
at_refusal s w id t = or_else (ask_refusal s w id) (cond (ltb t.0 (total_in (track_asked s id))) 0 15)

-- the sample's number, from 1. `holder` is the only index of which that holds (`holder_holds` and `holder_only` of the crate lists)
unfoldable pub at_number : List ℕ → ℕ → MediaTime → ℕ
at_number s id t = suc (holder (track_of (track_asked s id)).durations t.0)

-- document 02: "how many stts entries it took in: the position, from 1, of the entry that holds the answered sample"
unfoldable pub at_entry : List ℕ → ℕ → MediaTime → ℕ
at_entry s id t = entry_of (runs_of (table_of stts (track_asked s id))) (holder (track_of (track_asked s id)).durations t.0)

abbrev pub at_found : List ℕ → ℕ → MediaTime → Result Numbered Refusal
at_found s id t = Ok (record { sample = at_number s id t; entry = at_entry s id t })

abbrev pub at_answer : List ℕ → Source → ℕ → MediaTime → Result Numbered Refusal
at_answer s w id t = given (at_refusal s w id t) (at_found s id t) refused

-- the papers' number and values for each case of the answer
unfoldable pub number_numbers : Result Numbered Refusal → List ℕ
number_numbers (Ok x) = 0 ∷ x.sample ∷ x.entry ∷ []
number_numbers (Err e) = refused_with 2 (number e)

-- the promise of the question: the answer r
abbrev pub SampleAt : List ℕ → Source → ℕ → MediaTime → Result Numbered Refusal → Type 0
SampleAt s w id t r = Gives number_numbers (refused_with 2) refused (at_refusal s w id t) (at_found s id t) r

-- ---- "Movie time t to media time"

-- where the time falls, in a movie of that scale, of the track whose trak has the body t
unfoldable pub mapped_in : ℕ → List ℕ → MovieTime → Mapped
mapped_in movie t time = media_at (scale_of t) movie (total_in t) (elst_of t) time

unfoldable pub mapped_of : List ℕ → ℕ → MovieTime → Mapped
mapped_of s id t = mapped_in (movie_scale (moov_of s)) (track_asked s id) t

-- a time that lies outside is refused 15
unfoldable pub to_answer : Mapped → Result (Option MediaTime) Refusal
to_answer (Media m) = Ok (Some m)
to_answer Nothing = Ok None
to_answer Outside = refused 15

abbrev pub map_answer : List ℕ → Source → ℕ → MovieTime → Result (Option MediaTime) Refusal
map_answer s w id t = given (ask_refusal s w id) (to_answer (mapped_of s id t)) refused

-- document 01's number and values for each case of the answer: 1 and the media time, or 0 and 0 where nothing is shown
unfoldable pub time_numbers : Result (Option MediaTime) Refusal → List ℕ
time_numbers (Ok (Some m)) = 0 ∷ 1 ∷ m.0 ∷ []
time_numbers (Ok None) = 0 ∷ 0 ∷ 0 ∷ []
time_numbers (Err e) = refused_with 2 (number e)

-- the promise of the question: the answer r
abbrev pub Maps : List ℕ → Source → ℕ → MovieTime → Result (Option MediaTime) Refusal → Type 0
Maps s w id t r = Gives time_numbers (refused_with 2) refused (ask_refusal s w id) (to_answer (mapped_of s id t)) r
