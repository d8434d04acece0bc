-- "Features, decided by four-character code", of a track of a file.
use Rattle.std.specs.Prelude.{ℕ, List, [], ◌∷◌, Option, Some, None, Result, Ok, Err}
use Rattle.features.specs.Features.{feature_of, peak_for}
use Rattle.peaks.specs.declared.Peak.{Peak}
use Rattle.structure.specs.declared.source.Source.{Source}
use Rattle.structure.specs.Movie.{moov_of, movie_scale}
use Rattle.track.specs.Track.{track_of}
use Rattle.movie.specs.Rooms.{refused_with}
use Rattle.movie.specs.Answers.{given, Gives}
use Rattle.questions.specs.Asked.{ask_refusal, track_asked}
use Rattle.refusals.specs.Refusals.{number, refused}
use Rattle.refusals.specs.declared.Refusal.{Refusal}
use Rattle.feature_questions.specs.declared.Run.{Run}

-- 18: "the feature cannot be computed"
unfoldable pub to_value : Option ℕ → Result ℕ Refusal
to_value (Some v) = Ok v
to_value None = refused 18

-- what is answered where neither the film nor the ID is refused
abbrev pub feature_asked : List ℕ → ℕ → ℕ → Result ℕ Refusal
feature_asked s id code = to_value (feature_of (movie_scale (moov_of s)) (track_of (track_asked s id)) code)

abbrev pub feature_answer : List ℕ → Source → ℕ → ℕ → Result ℕ Refusal
feature_answer s w id code = given (ask_refusal s w id) (feature_asked s id code) refused

-- document 01's number and value for each case of the answer
unfoldable pub feature_numbers : Result ℕ Refusal → List ℕ
feature_numbers (Ok v) = 0 ∷ v ∷ []
feature_numbers (Err e) = refused_with 1 (number e)

-- the promise of the question: the answer r
abbrev pub Computes : List ℕ → Source → ℕ → ℕ → Result ℕ Refusal → Type 0
Computes s w id code r = Gives feature_numbers (refused_with 1) refused (ask_refusal s w id) (feature_asked s id code) r

-- ---- where the highest rate over a second is: by the code of its feature, and refused as that is; another code is refused 18

-- the number, from 1, of the first sample whose run has the greatest rate, and how many samples that run has
unfoldable pub to_run : Option Peak → Result Run Refusal
to_run (Some p) = Ok (record { first = p.first; count = p.count })
to_run None = refused 18

abbrev pub peak_asked : List ℕ → ℕ → ℕ → Result Run Refusal
peak_asked s id code = to_run (peak_for (track_of (track_asked s id)) code)

abbrev pub peak_answer : List ℕ → Source → ℕ → ℕ → Result Run Refusal
peak_answer s w id code = given (ask_refusal s w id) (peak_asked s id code) refused

-- the number and the values for each case of the answer
unfoldable pub peak_numbers : Result Run Refusal → List ℕ
peak_numbers (Ok x) = 0 ∷ x.first ∷ x.count ∷ []
peak_numbers (Err e) = refused_with 2 (number e)

-- the promise of the question: the answer r
abbrev pub Locates : List ℕ → Source → ℕ → ℕ → Result Run Refusal → Type 0
Locates s w id code r = Gives peak_numbers (refused_with 2) refused (ask_refusal s w id) (peak_asked s id code) r
