-- The formats of a track, from what the functions on its parts return.
-- Assumes nothing.
use Prim.Native.Nat.{ℕ}
use mathlib.Core.Path.{◌≡◌, refl, ◌∙◌}
use mathlib.Core.Bool.{Bool, true, false, not}
use mathlib.Core.List.{List}
use Rattle.atoms.specs.Kinds.{stsd}
use Rattle.words.specs.Words.{listed}
use Rattle.descriptions.specs.Descriptions.{descriptions}
use Rattle.structure.specs.Track.{subtype_of, table_of, profile_of}
use Rattle.track.specs.Track.{least_size, track_of}
use Rattle.profiles.specs.Profiles.{kept_of}
use Rattle.feature_checks.specs.Records.{record_value}
use Rattle.format_checks.specs.Formats.{names_format, formats, format_values, lacks_one, is_missing, format_fault}

module _ (b : List ℕ) (subtype : ℕ) (q : subtype ≡ subtype_of b) where
  pub missing_is : (p s : List ℕ) (least : ℕ) (r : Bool) → p ≡ profile_of b → s ≡ table_of stsd b → least ≡ least_size subtype
      → r ≡ lacks_one (format_values subtype (kept_of p)) (formats (descriptions least s)) → r ≡ is_missing (track_of b)
  unfolding is_missing track_of
  missing_is p s least r d f l e = e ∙ rw (l, q, d, f) refl

  -- a record e of its profile
  module _ (missing : Bool) (e : List ℕ) where
    pub no_format : names_format subtype e ≡ false → format_fault (track_of b) missing e ≡ false
    unfolding format_fault track_of
    no_format n = rw (← q, n)

    module _ (y : names_format subtype e ≡ true) where
      pub missing_format : missing ≡ true → format_fault (track_of b) missing e ≡ true
      unfolding format_fault track_of
      missing_format c = rw (← q, y, c)

      pub judged_format : (s : List ℕ) (least f : ℕ) (r : Bool) → missing ≡ false → s ≡ table_of stsd b → least ≡ least_size subtype → f ≡ record_value e
          → r ≡ listed f (formats (descriptions least s)) → not r ≡ format_fault (track_of b) missing e
      unfolding format_fault track_of
      judged_format s least f r c d l g h = rw (← q, y, c, h, g, l, d) refl
