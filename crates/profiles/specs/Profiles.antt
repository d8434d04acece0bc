-- "Stored profile: part-ID, code and value of each record kept, in order; ID 0 asks for the movie's own; no profile gives none."
use Rattle.std.specs.Prelude.{ℕ, List, [], ◌∷◌, cond, length, eqb, Result, Ok, Err}
use Rattle.bigendian.specs.BigEndian.{u32_at}
use Rattle.lists.specs.Entries.{rows_of, entries}
use Rattle.structure.specs.declared.source.Source.{Source}
use Rattle.structure.specs.Track.{profile_of}
use Rattle.structure.specs.Movie.{moov_of, movie_profile}
use Rattle.structure.specs.Rows.{or_else}
use Rattle.movie.specs.Refusals.{film_refusal}
use Rattle.movie.specs.Rooms.{no_room, refused_with}
use Rattle.movie.specs.Answers.{given, Puts}
use Rattle.questions.specs.Asked.{ask_refusal, track_asked}
use Rattle.refusals.specs.Refusals.{number, refused}
use Rattle.refusals.specs.declared.Refusal.{Refusal}

-- "Records with code 0 are passed over", each record being "reserved, part-ID, feature code and value"
unfoldable pub kept : List (List ℕ) → List (List ℕ)
kept [] = []
kept (e ∷ es) = cond (eqb (u32_at e 8) 0) (kept es) (e ∷ kept es)

-- "part-ID, code and value of each record", record after record
abbrev pub record_numbers : List (List ℕ) → List ℕ
record_numbers [] = []
record_numbers (e ∷ es) = u32_at e 4 ∷ u32_at e 8 ∷ u32_at e 12 ∷ record_numbers es

-- the records kept that stand one after the other in a part
unfoldable pub kept_in : List ℕ → List (List ℕ)
kept_in t = kept (rows_of 16 t)

-- the records kept of a profile: "its size is 16+16n". No profile is no bytes and has none
unfoldable pub kept_of : List ℕ → List (List ℕ)
kept_of p = kept (entries 16 16 p)

-- the profile asked for: "ID 0 asks for the movie's own"
unfoldable pub profile_asked : List ℕ → ℕ → List ℕ
profile_asked s id = cond (eqb id 0) (movie_profile (moov_of s)) (profile_of (track_asked s id))

unfoldable pub profile_numbers : List ℕ → ℕ → List ℕ
profile_numbers s id = record_numbers (kept_of (profile_asked s id))

-- the refusal before the room is looked at: the film's; 14 for an ID that is not 0 and no track's
abbrev pub id_refusal : List ℕ → Source → ℕ → ℕ
id_refusal s w id = cond (eqb id 0) (film_refusal s w) (ask_refusal s w id)

-- the refusal of the question: those, then 16
unfoldable pub profile_refusal : List ℕ → Source → ℕ → List ℕ → ℕ
profile_refusal s w id room = or_else (id_refusal s w id) (no_room (profile_numbers s id) room)

-- what is answered where nothing is refused: "the count of .. records .. is returned"
abbrev pub profile_count : List ℕ → ℕ → Result ℕ Refusal
profile_count s id = Ok (length (kept_of (profile_asked s id)))

abbrev pub profile_answer : List ℕ → Source → ℕ → List ℕ → Result ℕ Refusal
profile_answer s w id room = given (profile_refusal s w id room) (profile_count s id) refused

-- document 01's number and value for each case of the answer
unfoldable pub profile_answer_numbers : Result ℕ Refusal → List ℕ
profile_answer_numbers (Ok n) = 0 ∷ n ∷ []
profile_answer_numbers (Err e) = refused_with 1 (number e)

-- the promise of the question: the answer r, and the room after it
abbrev pub Profiles : List ℕ → Source → ℕ → List ℕ → Result ℕ Refusal → List ℕ → Type 0
Profiles s w id room r after =
    Puts profile_answer_numbers (refused_with 1) refused (profile_refusal s w id room) (profile_count s id) r (profile_numbers s id) room after
