-- A movie: the moov in the file and, from the body m of a moov, the movie's fields and its tracks.
use Rattle.std.specs.Prelude.{ℕ, List, map}
use Rattle.bigendian.specs.BigEndian.{u32_at}
use Rattle.atoms.specs.Kinds.{file, moov, trak, mvhd}
use Rattle.atoms.specs.Atoms.{body_of, atoms, of_kind, child_in, body_in}
use Rattle.structure.specs.Profile.{profile_in}

-- the body of the first moov of the file s; empty where there is none
unfoldable pub moov_of : List ℕ → List ℕ
moov_of s = body_in file moov 0 s

-- the bodies of its traks, in file order
abbrev pub tracks_of : List ℕ → List (List ℕ)
tracks_of m = map body_of (of_kind trak (atoms moov m))

-- the one at i of them, counted from 0; empty where there are no more than i
unfoldable pub track_at : ℕ → List ℕ → List ℕ
track_at i m = body_in moov trak i m

-- "time scale 20"
unfoldable pub movie_scale : List ℕ → ℕ
movie_scale m = u32_at (child_in moov mvhd 0 m) 20

-- its own profile; empty where it has none
unfoldable pub movie_profile : List ℕ → List ℕ
movie_profile m = profile_in moov mvhd m
