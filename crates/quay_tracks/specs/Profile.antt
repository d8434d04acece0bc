-- The quay film profile (document 02): its rules as a table, each a condition on the body m of a movie's moov or on the body t of
-- a trak, which holds where the rule is broken. This table is to be believed, with what it cites of `quay_rules/specs/Rules.antt` and
-- `chunk_order/specs/Order.antt`, and `quay/specs/Quay.antt`, which judges by it.
use Rattle.std.specs.Prelude.{ℕ, Bool, true, not, ◌&&◌, ◌||◌, List, [], ◌∷◌, length, eqb, ltb}
use Rattle.atoms.specs.Kinds.{ctts, vide}
use Rattle.structure.specs.Track.{subtype_of, table_of, edits_of, descriptions_of}
use Rattle.structure.specs.Movie.{tracks_of}
use Rattle.structure.specs.Rows.{Row, row, never}
use Rattle.track.specs.Track.{track_of}
use Rattle.features.specs.Features.{vfps, feature_of}
use Rattle.chunk_order.specs.Order.{disordered}
use Rattle.quay_rules.specs.Rules.{lacks_syncs, has_zero, too_fast}

-- whether each of some tracks has the subtype
abbrev pub all_of : ℕ → List (List ℕ) → Bool
all_of subtype [] = true
all_of subtype (t ∷ ts) = eqb (subtype_of t) subtype && all_of subtype ts

-- 1: "one or two vide tracks and no others"
unfoldable pub other_tracks : List ℕ → Bool
other_tracks m = not ((eqb (length (tracks_of m)) 1 || eqb (length (tracks_of m)) 2) && all_of vide (tracks_of m))

-- 2: "at most one edit entry a track"
unfoldable pub many_edits : List ℕ → Bool
many_edits t = ltb 1 (edits_of t)

-- 3: "one description a track"
unfoldable pub other_descriptions : List ℕ → Bool
other_descriptions t = not (eqb (descriptions_of t) 1)

-- 4: "no ctts", be it empty: an absent table is no bytes
unfoldable pub has_ctts : List ℕ → Bool
has_ctts t = not (eqb (length (table_of ctts t)) 0)

-- 5: "sample 1 sync, and a sync sample and those after it before the next sync one, or to the end, at most 250 samples".
-- "A track with no samples breaks the fifth."
unfoldable pub few_syncs : List ℕ → Bool
few_syncs t = lacks_syncs (track_of t).syncs

-- 6: "no zero sizes"
unfoldable pub zero_size : List ℕ → Bool
zero_size t = has_zero (track_of t).sizes

-- 7: "no zero durations"
unfoldable pub zero_duration : List ℕ → Bool
zero_duration t = has_zero (track_of t).durations

-- 8: "chunks in rising order of offset with none overlapping the one before"
unfoldable pub chunks_disordered : List ℕ → Bool
chunks_disordered t = disordered (track_of t).per_chunk (track_of t).chunk_offsets (track_of t).sizes

-- 9: "vfps at most 30.0", in a movie of that time scale. "A vfps refused 18 breaks the last rule."
unfoldable pub too_many_frames : ℕ → List ℕ → Bool
too_many_frames movie t = too_fast (feature_of movie (track_of t) vfps)

-- "Rules, in order": the number of each, its condition on the movie, its condition on a track
unfoldable pub quay_rules : ℕ → List Row
quay_rules movie =
    row 1 other_tracks never
    ∷ row 2 never many_edits
    ∷ row 3 never other_descriptions
    ∷ row 4 never has_ctts
    ∷ row 5 never few_syncs
    ∷ row 6 never zero_size
    ∷ row 7 never zero_duration
    ∷ row 8 never chunks_disordered
    ∷ row 9 never (too_many_frames movie)
    ∷ []
