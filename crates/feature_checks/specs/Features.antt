-- Document 02, Ask 12: "each universal record (part-ID 0x20202020) with code avvb, avab, mvbr, mabr or vfps must be at least the computed feature,
-- tvsz at least in each half."
use Rattle.std.specs.Prelude.{ℕ, ◌/◌, ◌%◌, List, [], ◌∷◌, Bool, true, cond, ◌&&◌, ◌||◌, eqb, ltb, Option, Some, None}
use Rattle.words.specs.Words.{listed}
use Rattle.features.specs.Features.{avvb, avab, mvbr, mabr, vfps, tvsz, feature_of}
use Rattle.track.specs.Track.{Track}
use Rattle.feature_checks.specs.Records.{record_code, record_value, is_universal}

-- "the first six codes": "avvb, avab, mvbr, mabr or vfps", and tvsz
abbrev pub feature_codes : List ℕ
feature_codes = avvb ∷ avab ∷ mvbr ∷ mabr ∷ vfps ∷ tvsz ∷ []

-- not "at least the computed feature, tvsz at least in each half"; "A record of the first six codes whose feature is refused 18 is at fault"
unfoldable pub too_low : ℕ → ℕ → Option ℕ → Bool
too_low code value (Some v) =
    cond (eqb code tvsz) (ltb (value / 65536) (v / 65536) || ltb (value % 65536) (v % 65536)) (ltb value v)
too_low code value None = true

-- whether a record is universal, with one of the six codes, and too low. movie is the movie's time scale
unfoldable pub feature_fault : ℕ → Track → List ℕ → Bool
feature_fault movie t e =
    is_universal e && (listed (record_code e) feature_codes && too_low (record_code e) (record_value e) (feature_of movie t (record_code e)))
