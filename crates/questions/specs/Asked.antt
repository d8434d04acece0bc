-- What every question of a track begins with: "Each takes the file and .. a track ID." The film is lent as s, by the source w.
use Rattle.std.specs.Prelude.{ℕ, List, cond}
use Rattle.structure.specs.declared.source.Source.{Source}
use Rattle.structure.specs.Movie.{moov_of}
use Rattle.structure.specs.Rows.{or_else}
use Rattle.movie.specs.Refusals.{film_refusal}
use Rattle.movie.specs.Tracks.{has_track, track_with}

-- "Order: file refusal, 14, ..": the refusal that is given before the question itself is looked at. 14: "no track has that ID"
unfoldable pub ask_refusal : List ℕ → Source → ℕ → ℕ
ask_refusal s w id = or_else (film_refusal s w) (cond (has_track id (moov_of s)) 0 14)

-- the track that is asked, as the body of its trak
unfoldable pub track_asked : List ℕ → ℕ → List ℕ
track_asked s id = track_with id (moov_of s)
