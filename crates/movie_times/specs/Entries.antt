-- The edit list of a track, entry by entry: "duration, signed media time, rate". A track without a list has no entry.
use Rattle.std.specs.Prelude.{ℕ, List, [], ◌∷◌, length, ℤ, pos, Result, Ok, Err}
use Rattle.edits.specs.declared.Edit.{Edit}
use Rattle.structure.specs.declared.source.Source.{Source}
use Rattle.structure.specs.Rows.{or_else}
use Rattle.track.specs.Track.{track_of}
use Rattle.movie.specs.Rooms.{no_room, refused_with}
use Rattle.movie.specs.Answers.{given, Puts}
use Rattle.questions.specs.Asked.{ask_refusal, track_asked}
use Rattle.refusals.specs.Refusals.{number, refused}
use Rattle.refusals.specs.declared.Refusal.{Refusal}

-- the duration in movie time, the media time with its sign, and the rate of each entry
abbrev pub edit_numbers : List Edit → List ℤ
edit_numbers [] = []
edit_numbers (e ∷ es) = pos e.duration ∷ e.media ∷ pos e.rate ∷ edit_numbers es

-- the entries of the track that is asked
unfoldable pub edits_asked : List ℕ → ℕ → List Edit
edits_asked s id = (track_of (track_asked s id)).edits

-- the refusal of the question: the film's, 14, then 16
unfoldable pub edits_refusal : List ℕ → Source → ℕ → List ℤ → ℕ
edits_refusal s w id room = or_else (ask_refusal s w id) (no_room (edit_numbers (edits_asked s id)) room)

-- what is answered where nothing is refused: how many entries
abbrev pub edits_count : List ℕ → ℕ → Result ℕ Refusal
edits_count s id = Ok (length (edits_asked s id))

abbrev pub edits_answer : List ℕ → Source → ℕ → List ℤ → Result ℕ Refusal
edits_answer s w id room = given (edits_refusal s w id room) (edits_count s id) refused

-- the number and the value of each case of the answer
unfoldable pub edits_numbers : Result ℕ Refusal → List ℕ
edits_numbers (Ok n) = 0 ∷ n ∷ []
edits_numbers (Err e) = refused_with 1 (number e)

-- the promise of the question: the answer r, and the room after it
abbrev pub StoresEdits : List ℕ → Source → ℕ → List ℤ → Result ℕ Refusal → List ℤ → Type 0
StoresEdits s w id room r after =
    Puts edits_numbers (refused_with 1) refused (edits_refusal s w id room) (edits_count s id) r (edit_numbers (edits_asked s id)) room after
