-- The tracks of a movie, told apart by their place and ID alone, from the body m of its moov.
use Rattle.std.specs.Prelude.{ℕ, List, [], ◌∷◌, map, Bool, false, cond, ◌||◌, eqb}
use Rattle.words.specs.Words.{listed}
use Rattle.structure.specs.Track.{id_of}
use Rattle.structure.specs.Movie.{tracks_of}

-- the tracks' IDs, in file order
abbrev pub ids_of : List ℕ → List ℕ
ids_of m = map id_of (tracks_of m)

-- whether one of them occurs twice
abbrev pub repeats : List ℕ → Bool
repeats [] = false
repeats (x ∷ l) = listed x l || repeats l

-- the first of some tracks that has the ID; empty where none has
abbrev pub with_id : ℕ → List (List ℕ) → List ℕ
with_id id [] = []
with_id id (t ∷ ts) = cond (eqb (id_of t) id) t (with_id id ts)

-- whether a track of the movie has the ID
unfoldable pub has_track : ℕ → List ℕ → Bool
has_track id m = listed id (ids_of m)

-- that track, as the body of its trak; empty where no track has the ID
unfoldable pub track_with : ℕ → List ℕ → List ℕ
track_with id m = with_id id (tracks_of m)
