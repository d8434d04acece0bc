-- What a record's value must reach, kept for each of the six codes: promises of functions that other crates call. Which bounds are held after a
-- record may differ from one correct program to another, so these need not be believed; callers go by `Judges.fault`.
use Rattle.std.specs.Prelude.{ℕ, suc, ◌/◌, ◌%◌, ◌<◌, ◌≡◌, List, [], ◌∷◌, Bool, cond, ◌||◌, length, get_or, replicate, eqb, ltb, Option, Some, None}
use Rattle.features.specs.Features.{tvsz, feature_of}
use Rattle.track.specs.Track.{Track}
use Rattle.feature_checks.specs.declared.Bounds.{Bounds}
use Rattle.feature_checks.specs.declared.Judged.{Judged}
use Rattle.feature_checks.specs.Features.{feature_codes, feature_fault}

-- the index, from 0, of a number in a list; the list's length where it has it not
unfoldable pub index_in : ℕ → List ℕ → ℕ
index_in x [] = 0
index_in x (y ∷ ys) = cond (eqb y x) 0 (suc (index_in x ys))

-- the least value that is not too low; where the feature can't be computed, one that 32 bits don't hold
unfoldable pub bound_of : Option ℕ → ℕ
bound_of (Some v) = v
bound_of None = 4294967296

unfoldable pub is_below : ℕ → ℕ → ℕ → Bool
is_below code value bound =
    cond (eqb code tvsz) (ltb (value / 65536) (bound / 65536) || ltb (value % 65536) (bound % 65536)) (ltb value bound)

-- one more than the bound of the code at i
unfoldable pub bound_at : ℕ → Track → ℕ → ℕ
bound_at movie t i = suc (bound_of (feature_of movie t (get_or feature_codes i 0)))

abbrev pub no_bounds : Bounds
no_bounds = record { of = replicate 6 0 }

-- that of each code whose feature has been computed, 0 for the others
pub record AreBounds (movie : ℕ) (t : Track) (b : Bounds) : Type 0 where
  pub six : length b.of ≡ 6
  pub known : (i : ℕ) → i < 6 → (get_or b.of i 0 ≡ 0 → ⊥) → get_or b.of i 0 ≡ bound_at movie t i

-- with that of the code at i
pub record HasBound (movie : ℕ) (t : Track) (i : ℕ) (b : Bounds) : Type 0 where
  pub bounds : AreBounds movie t b
  pub here : get_or b.of i 0 ≡ bound_at movie t i

pub record Judges (movie : ℕ) (t : Track) (e : List ℕ) (r : Judged) : Type 0 where
  pub fault : r.fault ≡ feature_fault movie t e
  pub bounds : AreBounds movie t r.bounds
