-- The rows 4 to 6, and the refusal of a film by the rows 1 to 6. These need not be believed: they are between the crates' own functions,
-- and `movie/proofs/Tables.antt` shows that with the rows 7 to 13 and 19 they come to `film_refusal` of the crate movie.
use Rattle.std.specs.Prelude.{ℕ, List, [], ◌∷◌, Bool}
use Rattle.atoms.specs.Kinds.{file, moov}
use Rattle.atoms.specs.Atoms.{filled}
use Rattle.atoms.specs.Tree.{everywhere}
use Rattle.leaves.specs.Leaves.{Version, Size}
use Rattle.leaves.specs.Leaves.{leaves_ok}
use Rattle.structure.specs.Movie.{moov_of, tracks_of}
use Rattle.limits.specs.Limits.{over_limits, too_many}
use Rattle.structure.specs.Rows.{Row, row, never, of_whole, first_judged, or_else}
use Rattle.structure.specs.declared.source.Source.{Source}
use Rattle.leaf_checks.specs.LeafChecks.{wrong_version, wrong_size, wrong_track_size}
use Rattle.shape.specs.Refusals.{file_rows}

-- what the walk over the tree finds: atoms fill every body of the file; the read leaves of a movie, from the body of its moov, have their
-- version, and their size
abbrev pub filled_tree : List ℕ → Bool
filled_tree s = everywhere filled 6 file s

abbrev pub versioned_movie : Bool → List ℕ → Bool
versioned_movie wide m = everywhere (leaves_ok Version wide) 5 moov m

abbrev pub sized_movie : Bool → List ℕ → Bool
sized_movie wide m = everywhere (leaves_ok Size wide) 5 moov m

-- number, condition on the body of the moov, condition on a track; `wide` is true of a moov alone
unfoldable pub movie_rows : Bool → List Row
movie_rows wide =
    row 4 (wrong_version wide) never
    ∷ row 5 (wrong_size wide) wrong_track_size
    ∷ row 6 too_many over_limits
    ∷ []

-- the refusal of a movie, from the body of its moov; 0 where it is not refused
unfoldable pub movie_refusal : Bool → List ℕ → ℕ
movie_refusal wide m = first_judged (movie_rows wide) m (tracks_of m)

-- the refusal of a film: the first of 1 to 6 that applies; 0 where the film is not refused
unfoldable pub refusal_of : Source → List ℕ → ℕ
refusal_of w s = or_else (of_whole (file_rows w) s) (movie_refusal w.alone (moov_of s))
