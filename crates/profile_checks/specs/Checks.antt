-- Document 02, Ask 12, "Is the camera's own profile true?", of a track of a film.
use Rattle.std.specs.Prelude.{ℕ, List, [], ◌∷◌, cond, eqb, Result, Ok, Err}
use Rattle.structure.specs.declared.source.Source.{Source}
use Rattle.structure.specs.Movie.{moov_of, movie_scale}
use Rattle.track.specs.Track.{track_of}
use Rattle.movie.specs.Rooms.{refused_with}
use Rattle.movie.specs.Answers.{given, Gives}
use Rattle.questions.specs.Asked.{ask_refusal, track_asked}
use Rattle.profile_faults.specs.Faults.{profile_fault}
use Rattle.refusals.specs.Refusals.{number, refused}
use Rattle.refusals.specs.declared.Refusal.{Refusal}
use Rattle.profile_checks.specs.declared.ProfileCheck.{ProfileCheck}
use Rattle.profile_checks.specs.declared.ProfileCheck.TheVariants.{Yes, Fault}

-- "The answer is yes, .. or the first record at fault by its place"
unfoldable pub to_fault : ℕ → ProfileCheck
to_fault place = cond (eqb place 0) Yes (Fault place)

-- what is answered where neither the film nor the ID is refused. "Refusals: the file's and 14"
abbrev pub check_asked : List ℕ → ℕ → Result ProfileCheck Refusal
check_asked s id = Ok (to_fault (profile_fault (movie_scale (moov_of s)) (track_of (track_asked s id))))

abbrev pub check_answer : List ℕ → Source → ℕ → Result ProfileCheck Refusal
check_answer s w id = given (ask_refusal s w id) (check_asked s id) refused

-- the number and the value for each case of the answer: the refusal, 0 for none, and the place, 0 for yes
unfoldable pub check_numbers : Result ProfileCheck Refusal → List ℕ
check_numbers (Ok Yes) = 0 ∷ 0 ∷ []
check_numbers (Ok (Fault place)) = 0 ∷ place ∷ []
check_numbers (Err e) = refused_with 1 (number e)

-- the promise of the question: the answer r
abbrev pub Checks : List ℕ → Source → ℕ → Result ProfileCheck Refusal → Type 0
Checks s w id r = Gives check_numbers (refused_with 1) refused (ask_refusal s w id) (check_asked s id) r
