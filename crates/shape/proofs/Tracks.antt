-- The movie's refusal by its tracks: the law of rows for the table that the code judges.
-- Assumes nothing.
use Prim.Native.Nat.{ℕ}
use mathlib.Core.Path.{◌≡◌, refl}
use mathlib.Core.List.{List}
use mathlib.Core.Bool.{Bool, true}
use Rattle.structure.specs.Rows.{of_whole, rank, ranks_rise}
use Rattle.structure.specs.ByTracks.{of_tracks, earlier_of}
use Rattle.structure.specs.Movie.{tracks_of}
use Rattle.structure.specs.declared.source.Source.{Source}
use Rattle.shape.specs.Refusals.{file_rows}
use Rattle.shape.specs.MovieRows.{movie_rows, movie_refusal}
use Rattle.structure.proofs.Rows.{by_tracks}

pub file_rows_rise : (w : Source) → ranks_rise 0 (file_rows w) ≡ true
unfolding rank ranks_rise file_rows
file_rows_rise w = refl

pub movie_rows_rise : (wide : Bool) → ranks_rise 6 (movie_rows wide) ≡ true
unfolding rank ranks_rise movie_rows
movie_rows_rise wide = refl

pub movie_by_tracks : (wide : Bool) (m : List ℕ) → movie_refusal wide m ≡ earlier_of (of_whole (movie_rows wide) m) (of_tracks (movie_rows wide) (tracks_of m))
unfolding movie_refusal
movie_by_tracks wide m = by_tracks 6 (movie_rows wide) m (tracks_of m) (movie_rows_rise wide)
