-- Refusal 6: "over 16 tracks, or in one track over 1,048,576 samples or chunks, 256 edits or 64 descriptions; in one profile over
-- 64 records"; document 02: "6 over 64 references". By the counts that the tables state.
use Rattle.std.specs.Prelude.{ℕ, List, Bool, ◌||◌, length, ltb}
use Rattle.bigendian.specs.BigEndian.{u32_at}
use Rattle.structure.specs.Track.{samples_of, chunks_of, edits_of, descriptions_of, references_of, profile_of}
use Rattle.structure.specs.Movie.{tracks_of, movie_profile}

-- of a track
unfoldable pub over_limits : List ℕ → Bool
over_limits t =
    ltb 1048576 (samples_of t) || ltb 1048576 (chunks_of t) || ltb 256 (edits_of t) || ltb 64 (descriptions_of t)
    || ltb 64 (u32_at (profile_of t) 12) || ltb 64 (references_of t)

-- of the movie
unfoldable pub too_many : List ℕ → Bool
too_many m = ltb 16 (length (tracks_of m)) || ltb 64 (u32_at (movie_profile m) 12)
