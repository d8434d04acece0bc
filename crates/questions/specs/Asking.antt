-- What a question of a track begins with, from what judging its film finds. These need not be believed: they are between the crates' own functions.
use Rattle.std.specs.Prelude.{ℕ, ◌≤◌, ◌<◌, ◌≡◌, List, [], map, true, false, length, get_or, Result, Ok}
use Rattle.refusals.specs.declared.Refusal.{Refusal}
use Rattle.refusals.specs.Refusals.{code}
use Rattle.words.specs.Words.{listed}
use Rattle.structure.specs.declared.source.Source.{Source}
use Rattle.structure.specs.Track.{id_of}
use Rattle.structure.specs.Movie.{moov_of, movie_scale}
use Rattle.places.specs.Places.{IsTrak}
use Rattle.movie.specs.Tracks.{with_id}
use Rattle.questions.specs.Asked.{ask_refusal, track_asked}
use Rattle.questions.specs.declared.Asked.{Asked}

-- the refusal, and where there is none the movie's time scale and the trak of the track that is asked
pub record Asks (s : List ℕ) (w : Source) (id : ℕ) (r : Result Asked Refusal) : Type 0 where
  pub refusal : code r ≡ ask_refusal s w id
  pub movie : (a : Asked) → r ≡ Ok a → a.movie ≡ movie_scale (moov_of s)
  pub trak : (a : Asked) → r ≡ Ok a → IsTrak s (track_asked s id) a.trak

-- the first of the tracks ts with the ID is at i; where none has it, i is their number
pub record StandsAt (id : ℕ) (ts : List (List ℕ)) (i : ℕ) : Type 0 where
  pub within : i ≤ length ts
  pub found : i < length ts → (listed id (map id_of ts) ≡ true) × (with_id id ts ≡ get_or ts i [])
  pub none : i ≡ length ts → listed id (map id_of ts) ≡ false
