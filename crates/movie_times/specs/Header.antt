-- The movie's time scale and stored duration. No rule of document 01 uses the duration, so it is told as it stands.
use Rattle.std.specs.Prelude.{ℕ, List, [], ◌∷◌, Result, Ok, Err}
use Rattle.bigendian.specs.BigEndian.{u32_at}
use Rattle.atoms.specs.Kinds.{moov, mvhd}
use Rattle.atoms.specs.Atoms.{child_in}
use Rattle.structure.specs.declared.source.Source.{Source}
use Rattle.structure.specs.Movie.{moov_of, movie_scale}
use Rattle.movie.specs.Refusals.{film_refusal}
use Rattle.movie.specs.Rooms.{refused_with}
use Rattle.movie.specs.Answers.{given, Gives}
use Rattle.refusals.specs.Refusals.{number, refused}
use Rattle.refusals.specs.declared.Refusal.{Refusal}
use Rattle.movie_times.specs.declared.header.MovieTimes.{MovieTimes}

-- from the body m of a moov. "mvhd .. time scale 20, duration 24"
unfoldable pub movie_duration : List ℕ → ℕ
movie_duration m = u32_at (child_in moov mvhd 0 m) 24

-- what is answered where nothing is refused
abbrev pub movie_told : List ℕ → Result MovieTimes Refusal
movie_told s = Ok (record { scale = movie_scale (moov_of s); duration = movie_duration (moov_of s) })

abbrev pub movie_answer : List ℕ → Source → Result MovieTimes Refusal
movie_answer s w = given (film_refusal s w) (movie_told s) refused

-- the number and the values of each case of the answer
unfoldable pub movie_numbers : Result MovieTimes Refusal → List ℕ
movie_numbers (Ok x) = 0 ∷ x.scale ∷ x.duration ∷ []
movie_numbers (Err e) = refused_with 2 (number e)

-- the promise of the question: the answer r
abbrev pub Movies : List ℕ → Source → Result MovieTimes Refusal → Type 0
Movies s w r = Gives movie_numbers (refused_with 2) refused (film_refusal s w) (movie_told s) r
