-- What judging a film finds: its refusal, or where it is not refused the parts of its movie.
use Rattle.std.specs.Prelude.{ℕ, ◌≡◌, List, Bool, Result, Ok}
use Rattle.refusals.specs.declared.Refusal.{Refusal}
use Rattle.refusals.specs.Refusals.{code}
use Rattle.structure.specs.Movie.{moov_of, tracks_of}
use Rattle.structure.specs.ByTracks.{of_tracks}
use Rattle.places.specs.Movies.{AreTraks, IsMovie}
use Rattle.places.specs.declared.moov.Movie.{Movie}
use Rattle.shape.specs.MovieRows.{movie_rows, movie_refusal}
use Rattle.shape.specs.declared.Walked.{Walked}

-- the film s has the refusal n, and where it has none its movie is found
pub record Judges (s : List ℕ) (n : ℕ) (r : Result Movie Refusal) : Type 0 where
  pub refusal : code r ≡ n
  pub movie : (m : Movie) → r ≡ Ok m → IsMovie s (moov_of s) m

-- ---- between the crate's own functions, of a movie from the body m of its moov

pub record Walks (wide : Bool) (s m : List ℕ) (r : Walked) : Type 0 where
  pub refusal : code r.refusal ≡ of_tracks (movie_rows wide) (tracks_of m)
  pub traks : AreTraks s (tracks_of m) r.traks

pub record JudgesMovie (wide : Bool) (s m : List ℕ) (r : Result Movie Refusal) : Type 0 where
  pub refusal : code r ≡ movie_refusal wide m
  pub movie : (x : Movie) → r ≡ Ok x → IsMovie s m x
