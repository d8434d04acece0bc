-- The rows 7 to 13 and 19, as far as they are a track's own. These need not be believed: they are between the crates' own functions, and
-- `movie/proofs/Tables.antt` shows that they come to those of the table, `moov_rows` of the crate movie.
use Rattle.std.specs.Prelude.{ℕ, List, [], ◌∷◌, eqb}
use Rattle.structure.specs.declared.source.Source.{Source}
use Rattle.structure.specs.Track.{id_of, scale_of}
use Rattle.structure.specs.Rows.{Row, row, never}
use Rattle.track.specs.Refusals.{contradicts, total_too_large, other_duration, data_elsewhere, chunk_past_end, wrong_edits}

-- the rows from 10 on, and from 7 on, by that source, for a movie of that time scale in a file of that length. What 7 and 8 say of the movie is the
-- movie's to add: an ID that occurs twice, and the movie's own scale
unfoldable pub timed_rows : Source → ℕ → ℕ → List Row
timed_rows w movie len =
    row 10 never total_too_large
    ∷ row 11 never (other_duration w)
    ∷ row 19 never data_elsewhere
    ∷ row 12 never (chunk_past_end len)
    ∷ row 13 never (wrong_edits movie)
    ∷ []

-- 7: "a track ID is 0"; 8: "a .. media time scale is 0"
unfoldable pub track_rows : Source → ℕ → ℕ → List Row
track_rows w movie len =
    row 7 never (λ t. eqb (id_of t) 0)
    ∷ row 8 never (λ t. eqb (scale_of t) 0)
    ∷ row 9 never contradicts
    ∷ timed_rows w movie len
