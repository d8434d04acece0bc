-- The rows 7 to 13 and 19, which the code judges after the crate shape has passed the film. These need not be believed: they are between the
-- crates' own functions, and `proofs/Tables.antt` shows that with those of shape they make up the table.
use Rattle.std.specs.Prelude.{ℕ, List, [], ◌∷◌}
use Rattle.structure.specs.declared.source.Source.{Source}
use Rattle.structure.specs.Movie.{tracks_of, movie_scale}
use Rattle.structure.specs.Rows.{Row, row, never, first_judged}
use Rattle.track.specs.Refusals.{contradicts, total_too_large, other_duration, data_elsewhere, chunk_past_end, wrong_edits}
use Rattle.movie.specs.Refusals.{same_ids, id_is_zero, movie_scale_is_zero, scale_is_zero}

unfoldable pub table_rows : Source → ℕ → ℕ → List Row
table_rows w scale len =
    row 7 same_ids id_is_zero
    ∷ row 8 movie_scale_is_zero scale_is_zero
    ∷ row 9 never contradicts
    ∷ row 10 never total_too_large
    ∷ row 11 never (other_duration w)
    ∷ row 19 never data_elsewhere
    ∷ row 12 never (chunk_past_end len)
    ∷ row 13 never (wrong_edits scale)
    ∷ []

unfoldable pub tables_refusal : Source → ℕ → List ℕ → ℕ
tables_refusal w len m = first_judged (table_rows w (movie_scale m) len) m (tracks_of m)
