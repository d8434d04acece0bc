-- Document 02, Ask 12: "the first record at fault by its place, from 1, in the stored profile" of a track.
use Rattle.std.specs.Prelude.{ℕ, suc, List, [], ◌∷◌, Bool, cond, ◌||◌}
use Rattle.track.specs.Track.{Track}
use Rattle.profiles.specs.Profiles.{kept_of}
use Rattle.feature_checks.specs.Features.{feature_fault}
use Rattle.format_checks.specs.Formats.{is_missing, format_fault}

-- whether a record is at fault; "Other records, and these two in a track of another subtype, are passed over"
unfoldable pub at_fault : ℕ → Track → Bool → List ℕ → Bool
at_fault movie t missing e = feature_fault movie t e || format_fault t missing e

-- the place, from k, of the first record at fault; 0 for none. "a missing format is charged to the first vfmt or afmt record not passed over": where
-- one is missing, each such record is at fault, and the first of them ends the walk
unfoldable pub fault_from : ℕ → Track → Bool → ℕ → List (List ℕ) → ℕ
fault_from movie t missing k [] = 0
fault_from movie t missing k (e ∷ es) =
    cond (at_fault movie t missing e) k (fault_from movie t missing (suc k) es)

-- "the first record at fault by its place, from 1, in the stored profile", which keeps the records with a code that is not 0; 0 for "yes, also
-- without a profile"
unfoldable pub profile_fault : ℕ → Track → ℕ
profile_fault movie t = fault_from movie t (is_missing t) 1 (kept_of t.profile)
