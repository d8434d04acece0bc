-- "Track list: for each trak in file order, ID, subtype, media time scale .. total, N, C, edits (0 without a list). Names play no part."
-- "The stored duration comes last for each track in the track list".
use Rattle.std.specs.Prelude.{ℕ, List, [], ◌∷◌, ◌++◌, length, Result, Ok, Err}
use Rattle.refusals.specs.declared.Refusal.{Refusal}
use Rattle.refusals.specs.Refusals.{number, refused}
use Rattle.structure.specs.declared.source.Source.{Source}
use Rattle.structure.specs.Track.{id_of, subtype_of, scale_of, duration_of, samples_of, chunks_of, edits_of}
use Rattle.structure.specs.Movie.{moov_of, tracks_of}
use Rattle.structure.specs.Rows.{or_else}
use Rattle.track.specs.Refusals.{total_in}
use Rattle.movie.specs.Refusals.{film_refusal}
use Rattle.movie.specs.Rooms.{no_room, refused_with}
use Rattle.movie.specs.Answers.{given, Puts}

-- the eight numbers of a track, from the body of its trak
unfoldable pub line_of : List ℕ → List ℕ
line_of t = id_of t ∷ subtype_of t ∷ scale_of t ∷ total_in t ∷ samples_of t ∷ chunks_of t ∷ edits_of t ∷ duration_of t ∷ []

-- those of some tracks, track after track
abbrev pub lines_of : List (List ℕ) → List ℕ
lines_of [] = []
lines_of (t ∷ ts) = line_of t ++ lines_of ts

-- the list of a film's tracks
unfoldable pub track_lines : List ℕ → List ℕ
track_lines s = lines_of (tracks_of (moov_of s))

-- the refusal of the question: the film's, then 16
unfoldable pub list_refusal : List ℕ → Source → List ℕ → ℕ
list_refusal s w room = or_else (film_refusal s w) (no_room (track_lines s) room)

-- what is answered where nothing is refused: "the count of tracks .. is returned"
abbrev pub listed : List ℕ → Result ℕ Refusal
listed s = Ok (length (tracks_of (moov_of s)))

abbrev pub list_answer : List ℕ → Source → List ℕ → Result ℕ Refusal
list_answer s w room = given (list_refusal s w room) (listed s) refused

-- document 01's number and value for each case of the answer; the number is 0 where nothing is refused
unfoldable pub track_list_numbers : Result ℕ Refusal → List ℕ
track_list_numbers (Ok n) = 0 ∷ n ∷ []
track_list_numbers (Err e) = refused_with 1 (number e)

-- the promise of the question, with that room: the answer r, and the room after it
abbrev pub Lists : List ℕ → Source → List ℕ → Result ℕ Refusal → List ℕ → Type 0
Lists s w room r after =
    Puts track_list_numbers (refused_with 1) refused (list_refusal s w room) (listed s) r (track_lines s) room after
