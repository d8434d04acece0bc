-- Refusals 4 and 5: versions and sizes of the read leaves and of profiles. `wide` is true of a moov alone, in which co64 is a read leaf.
use Rattle.std.specs.Prelude.{ℕ, List, Bool, not, ◌&&◌, ◌||◌, length, eqb}
use Rattle.bigendian.specs.BigEndian.{u32_at}
use Rattle.atoms.specs.Kinds.{moov, stsd, vide}
use Rattle.atoms.specs.Tree.{everywhere}
use Rattle.leaves.specs.Leaves.{Version, Size}
use Rattle.leaves.specs.Leaves.{holds_entries, sized_entries, leaves_ok}
use Rattle.structure.specs.Track.{subtype_of, table_of, profile_of}
use Rattle.structure.specs.Movie.{movie_profile}

-- whether there is none, or it has its size: "Otherwise its size is 16+16n, n at 12". "An empty body is refused 5": it has not
unfoldable pub profile_ok : List ℕ → Bool
profile_ok a = eqb (length a) 0 || holds_entries 16 16 (u32_at a 12) a

-- 4: "a read leaf has a body whose first byte is not 0"
unfoldable pub wrong_version : Bool → List ℕ → Bool
wrong_version wide m = not (everywhere (leaves_ok Version wide) 5 moov m)

-- 5: "a read leaf or profile hasn't its size": the read leaves of the movie and of its tracks, and the movie's profile
unfoldable pub wrong_size : Bool → List ℕ → Bool
wrong_size wide m = not (everywhere (leaves_ok Size wide) 5 moov m) || not (profile_ok (movie_profile m))

-- "In a track of subtype 'vide' a description is at least 36 bytes (else refused 5)"
unfoldable pub short_video_description : List ℕ → Bool
short_video_description t = eqb (subtype_of t) vide && not (sized_entries 36 (table_of stsd t))

-- 5 in a track: that, and its profile
unfoldable pub wrong_track_size : List ℕ → Bool
wrong_track_size t = short_video_description t || not (profile_ok (profile_of t))
