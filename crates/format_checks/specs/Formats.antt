-- Document 02, Ask 12: "If any universal 'vfmt' (vide) or 'afmt' (soun) record is there, the values must be exactly the formats in stsd, in any
-- order, repeats allowed."
use Rattle.std.specs.Prelude.{ℕ, List, [], ◌∷◌, map, Bool, false, cond, not, ◌&&◌, ◌||◌, eqb}
use Rattle.atoms.specs.Kinds.{vide}
use Rattle.words.specs.Words.{listed}
use Rattle.descriptions.specs.Descriptions.{format_of}
use Rattle.track.specs.Track.{Track}
use Rattle.features.specs.Features.{soun}
use Rattle.profiles.specs.Profiles.{kept_of}
use Rattle.feature_checks.specs.Records.{record_code, record_value, is_universal}

-- the codes 'vfmt' and 'afmt'
abbrev pub vfmt : ℕ
vfmt = 0x76666d74

abbrev pub afmt : ℕ
afmt = 0x61666d74

-- whether a record is a "universal 'vfmt' (vide) or 'afmt' (soun) record"; "these two in a track of another subtype, are passed over"
unfoldable pub names_format : ℕ → List ℕ → Bool
names_format subtype e =
    is_universal e && ((eqb (record_code e) vfmt && eqb subtype vide) || (eqb (record_code e) afmt && eqb subtype soun))

-- "the formats in stsd"
abbrev pub formats : List (List ℕ) → List ℕ
formats ds = map format_of ds

-- "the values" of these records
unfoldable pub format_values : ℕ → List (List ℕ) → List ℕ
format_values subtype [] = []
format_values subtype (e ∷ es) = cond (names_format subtype e) (record_value e ∷ format_values subtype es) (format_values subtype es)

-- whether one of some formats is none of some values
unfoldable pub lacks_one : List ℕ → List ℕ → Bool
lacks_one values [] = false
lacks_one values (f ∷ fs) = not (listed f values) || lacks_one values fs

-- "a missing format": whether one of the track's is none of its profile's values. It is so too where no record names a format, and the rule is "If
-- any .. record is there": it counts only at such a record, in format_fault
unfoldable pub is_missing : Track → Bool
is_missing t = lacks_one (format_values t.subtype (kept_of t.profile)) (formats t.descriptions)

-- whether a record of those named above names a format that stsd has not, or a format is missing: of the records that are then at fault "the first
-- vfmt or afmt record not passed over" is the one that is answered, unless an earlier record of another code is at fault
unfoldable pub format_fault : Track → Bool → List ℕ → Bool
format_fault t missing e = names_format t.subtype e && (missing || not (listed (record_value e) (formats t.descriptions)))
