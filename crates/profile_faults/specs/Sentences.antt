-- What the fault of a stored profile says of its records, one by one.
use Rattle.std.specs.Prelude.{ℕ, suc, ◌/◌, ◌%◌, ◌≤◌, ◌<◌, ◌≡◌, List, [], true, length, get_or, Option, Some}
use Rattle.words.specs.Words.{listed}
use Rattle.descriptions.specs.Descriptions.{format_of}
use Rattle.features.specs.Features.{tvsz, feature_of}
use Rattle.track.specs.Track.{Track}
use Rattle.profiles.specs.Profiles.{kept_of}
use Rattle.feature_checks.specs.Records.{record_code, record_value, is_universal}
use Rattle.feature_checks.specs.Features.{feature_codes}
use Rattle.format_checks.specs.Formats.{names_format, formats, format_values}
use Rattle.profile_faults.specs.Faults.{profile_fault}

-- the records of the stored profile, "in order", and the one at an index, from 0
abbrev pub records : Track → List (List ℕ)
records t = kept_of t.profile

abbrev pub record_at : Track → ℕ → List ℕ
record_at t i = get_or (records t) i []

-- "at least the computed feature, tvsz at least in each half"; no value is where the feature "is refused 18"
pub record AtLeast (code value : ℕ) (f : Option ℕ) : Type 0 where
  pub feature : ℕ
  pub computed : f ≡ Some feature
  pub enough : (code ≡ tvsz → ⊥) → feature ≤ value
  pub halves : code ≡ tvsz → (feature / 65536 ≤ value / 65536) × (feature % 65536 ≤ value % 65536)

-- the rules for a record; one of another kind has none
pub record Obeys (movie : ℕ) (t : Track) (e : List ℕ) : Type 0 where
  -- "each universal record .. must be at least the computed feature"
  pub enough : is_universal e ≡ true → listed (record_code e) feature_codes ≡ true
      → AtLeast (record_code e) (record_value e) (feature_of movie t (record_code e))
  -- "the values must be exactly the formats in stsd": its value is a format
  pub named : names_format t.subtype e ≡ true → listed (record_value e) (formats t.descriptions) ≡ true
  -- and "If any .. record is there" each format is a value
  pub complete : names_format t.subtype e ≡ true → (j : ℕ) → j < length t.descriptions
      → listed (format_of (get_or t.descriptions j [])) (format_values t.subtype (records t)) ≡ true

-- the rules, "whoever wrote it"; without a profile there is no record
abbrev pub Keeps : ℕ → Track → Type 0
Keeps movie t = (i : ℕ) → i < length (records t) → Obeys movie t (record_at t i)

-- the record at i is "the first record at fault": it breaks a rule, and none before it does
pub record FirstAtFault (movie : ℕ) (t : Track) (i : ℕ) : Type 0 where
  pub within : i < length (records t)
  pub breaks : Obeys movie t (record_at t i) → ⊥
  pub before : (j : ℕ) → j < i → Obeys movie t (record_at t j)

pub record TrueExactly (movie : ℕ) (t : Track) : Type 0 where
  -- "Any profile that keeps these rules is accepted", and no other
  pub accepted : Keeps movie t → profile_fault movie t ≡ 0
  pub keeps : profile_fault movie t ≡ 0 → Keeps movie t
  -- "the first record at fault by its place, from 1"
  pub first : (i : ℕ) → profile_fault movie t ≡ suc i → FirstAtFault movie t i
