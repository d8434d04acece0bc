-- What a walk over a profile's records, or over the descriptions of an stsd, learns of their formats at a place.
-- Assumes nothing.
use Prim.Native.Nat.{ℕ, ◌≤◌, ◌<◌}
use mathlib.Core.Path.{◌≡◌, refl, sym, ◌∙◌}
use mathlib.Core.Bool.{Bool, true, false, ◌&&◌, ◌||◌}
use mathlib.Core.List.{List, [], ◌∷◌}
use native.Mathlib.Omega.{arith}
use native.Mathlib.Decide.{ℕ_discrete}
use native.Mathlib.Nat.{pos_of_ne-zero}
use borrow.Author.Tests.{eq-eqb, ne_eqb}
use lib.Dec.{eqb, lit≤}
use lib.ListN.{length, take, drop}
use Rattle.bigendian.proofs.Laws.{be_at_take}
use Rattle.lists.proofs.Booleans.{and_left, and_right, and_false}
use Rattle.atoms.specs.Kinds.{vide}
use Rattle.atoms.specs.Pieces.{pieces}
use Rattle.atoms.proofs.Pieces.{pieces_none, pieces_next}
use Rattle.words.specs.Words.{listed}
use Rattle.descriptions.specs.Descriptions.{format_of}
use Rattle.features.specs.Features.{soun}
use Rattle.profiles.specs.Profiles.{kept_in}
use Rattle.profiles.proofs.Kept.{kept_none, kept_here, kept_next}
use Rattle.feature_checks.specs.Records.{record_code, record_value, is_universal}
use Rattle.format_checks.specs.Formats.{vfmt, afmt, names_format, formats, format_values, lacks_one}

-- ---- a record

-- by its own bytes
pub format_taken : (subtype : ℕ) (t : List ℕ) → names_format subtype (take 16 t) ≡ names_format subtype t
unfolding names_format is_universal
format_taken subtype t = rw (be_at_take 4 16 t 4 (lit≤ tt), be_at_take 4 16 t 8 (lit≤ tt))

module _ (subtype : ℕ) (e : List ℕ) where
  pub format_part : is_universal e ≡ false → names_format subtype e ≡ false
  unfolding names_format
  format_part h = rw h

  module _ (code : ℕ) (c : code ≡ record_code e) (u : is_universal e ≡ true) where
    pub format_pictures : code ≡ vfmt → names_format subtype e ≡ eqb subtype vide
    unfolding names_format
    format_pictures q = rw (u, ← c, q) (or_false (eqb subtype vide))
      where
        or_false : (b : Bool) → (b || false) ≡ b
        or_false true = refl
        or_false false = refl

    pub format_sound : code ≡ afmt → names_format subtype e ≡ eqb subtype soun
    unfolding names_format
    format_sound q = rw (u, ← c, q)

    pub format_other : (code ≡ vfmt → ⊥) → (code ≡ afmt → ⊥) → names_format subtype e ≡ false
    unfolding names_format
    format_other p q = rw (u, ← c, ne_eqb code vfmt p, ne_eqb code afmt q)

  -- a format record has a code
  pub format_coded : names_format subtype e ≡ true → record_code e ≡ 0 → ⊥
  unfolding names_format
  format_coded h z =
      let g : ◌≡◌ {A = Bool} false true = sym (and_false (is_universal e)) ∙ (rw z at h) in
      let n : ◌≡◌ {A = ℕ} 0 1 = cc in
      omega arith

-- ---- the values of the format records from a place t on

module _ (subtype : ℕ) (t : List ℕ) where
  pub values_none : length t < 16 → format_values subtype (kept_in t) ≡ []
  unfolding format_values
  values_none h = rw (kept_none t h)

  pub values_here : 16 ≤ length t → names_format subtype t ≡ true → format_values subtype (kept_in t) ≡ record_value t ∷ format_values subtype (kept_in (drop 16 t))
  unfolding format_values
  values_here h f = rw (kept_here t (record_code t) h refl (format_coded subtype t f), format_taken subtype t, f, be_at_take 4 16 t 12 (lit≤ tt))

  pub values_next : 16 ≤ length t → names_format subtype t ≡ false → format_values subtype (kept_in t) ≡ format_values subtype (kept_in (drop 16 t))
  unfolding format_values
  values_next h f = elim (ℕ_discrete (record_code t) 0) [
    | yes z ↦ rw (kept_next t (record_code t) h refl z)
    | no z ↦ rw (kept_here t (record_code t) h refl z, format_taken subtype t, f)
  ]

  -- whether a format is one of them
  module _ (format : ℕ) where
    pub named_here : 16 ≤ length t → (names_format subtype t && eqb (record_value t) format) ≡ true → listed format (format_values subtype (kept_in t)) ≡ true
    named_here h f = rw (values_here h (and_left _ _ f), and_right (names_format subtype t) _ f)

    pub named_next : 16 ≤ length t → (names_format subtype t && eqb (record_value t) format) ≡ false
        → listed format (format_values subtype (kept_in t)) ≡ listed format (format_values subtype (kept_in (drop 16 t)))
    named_next h f = go (names_format subtype t) refl
      where
        go : (b : Bool) → names_format subtype t ≡ b → listed format (format_values subtype (kept_in t)) ≡ listed format (format_values subtype (kept_in (drop 16 t)))
        go false q = rw (values_next h q)
        go true q = let z : eqb (record_value t) format ≡ false = rw q at f in rw (values_here h q, z)

-- ---- the formats of the descriptions from a place s on, from the size z there

module _ (size : List ℕ → ℕ) (s : List ℕ) {z : ℕ} (e : z ≡ size s) where
  pub format_none : (format : ℕ) → z ≡ 0 → listed format (formats (pieces size s)) ≡ false
  format_none format h = rw (pieces_none size s (sym e ∙ h))

  pub lacks_none : (values : List ℕ) → z ≡ 0 → lacks_one values (formats (pieces size s)) ≡ false
  unfolding lacks_one
  lacks_none values h = rw (pieces_none size s (sym e ∙ h))

  module _ (n : z ≡ 0 → ⊥) (g : z ≤ length s) (f : ℕ) (d : f ≡ format_of (take z s)) where
    pub formats_are : formats (pieces size s) ≡ f ∷ formats (pieces size (drop z s))
    formats_are = rw (pieces_next size s z e (pos_of_ne-zero n) g, d)

    pub format_here : (format : ℕ) → f ≡ format → listed format (formats (pieces size s)) ≡ true
    format_here format q = rw (formats_are, eq-eqb f format q)

    pub format_next : (format : ℕ) → (f ≡ format → ⊥) → listed format (formats (pieces size s)) ≡ listed format (formats (pieces size (drop z s)))
    format_next format q = rw (formats_are, ne_eqb f format q)

    pub lacks_here : (values : List ℕ) → listed f values ≡ false → lacks_one values (formats (pieces size s)) ≡ true
    unfolding lacks_one
    lacks_here values q = rw (formats_are, q)

    pub lacks_next : (values : List ℕ) → listed f values ≡ true → lacks_one values (formats (pieces size s)) ≡ lacks_one values (formats (pieces size (drop z s)))
    unfolding lacks_one
    lacks_next values q = rw (formats_are, q)
