-- The refusals of a film, 1 to 13 and 19: the papers' table, row after row, in the order of judging. Of all lists of rows this one,
-- `moov_rows` with `file_rows`, is to be believed, and `film_refusal`, which judges by it.
use Rattle.std.specs.Prelude.{ℕ, List, [], ◌∷◌, Bool, eqb}
use Rattle.structure.specs.declared.source.Source.{Source}
use Rattle.structure.specs.Source.{length_of}
use Rattle.structure.specs.Track.{id_of, scale_of}
use Rattle.structure.specs.Movie.{moov_of, tracks_of, movie_scale}
use Rattle.limits.specs.Limits.{over_limits, too_many}
use Rattle.structure.specs.Rows.{Row, row, never, of_whole, first_judged, or_else}
use Rattle.leaf_checks.specs.LeafChecks.{wrong_version, wrong_size, wrong_track_size}
use Rattle.shape.specs.Refusals.{file_rows}
use Rattle.track.specs.Refusals.{contradicts, total_too_large, other_duration, data_elsewhere, chunk_past_end, wrong_edits}
use Rattle.movie.specs.Tracks.{ids_of, repeats}

-- 7, of a movie: "a track ID .. occurs twice"; of a track: "a track ID is 0"
unfoldable pub same_ids : List ℕ → Bool
same_ids m = repeats (ids_of m)

unfoldable pub id_is_zero : List ℕ → Bool
id_is_zero t = eqb (id_of t) 0

-- 8: "a movie or media time scale is 0"
unfoldable pub movie_scale_is_zero : List ℕ → Bool
movie_scale_is_zero m = eqb (movie_scale m) 0

unfoldable pub scale_is_zero : List ℕ → Bool
scale_is_zero t = eqb (scale_of t) 0

-- the rows that are judged on the movie, its source, its time scale and the file's length given: number, condition on the body of its moov,
-- condition on a track. The rows 1 to 3, which are judged on the bytes lent, are `file_rows` of the crate shape
unfoldable pub moov_rows : Source → ℕ → ℕ → List Row
moov_rows w scale len =
    row 4 (wrong_version w.alone) never
    ∷ row 5 (wrong_size w.alone) wrong_track_size
    ∷ row 6 too_many over_limits
    ∷ row 7 same_ids id_is_zero
    ∷ row 8 movie_scale_is_zero scale_is_zero
    ∷ row 9 never contradicts
    ∷ row 10 never total_too_large
    ∷ row 11 never (other_duration w)
    -- document 02: "19, data elsewhere or no such entry, judged after 11 and before 12"
    ∷ row 19 never data_elsewhere
    ∷ row 12 never (chunk_past_end len)
    ∷ row 13 never (wrong_edits scale)
    ∷ []

-- the refusal of a movie, from the body of its moov and the length of its file; 0 where it is not refused
unfoldable pub moov_refusal : Source → ℕ → List ℕ → ℕ
moov_refusal w len m = first_judged (moov_rows w (movie_scale m) len) m (tracks_of m)

-- the refusal of a film, from the bytes lent and its source: the first in the order judged; 0 where the film is not refused
unfoldable pub film_refusal : List ℕ → Source → ℕ
film_refusal s w = or_else (of_whole (file_rows w) s) (moov_refusal w (length_of w s) (moov_of s))
