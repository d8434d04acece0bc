-- The bounds of the six codes, and what a value below its bound says of the record.
-- Assumes nothing.
use Rattle.std.specs.Prelude.{Option, Some, None}
use Prim.Native.Nat.{ℕ, suc, ◌+◌, ◌-◌, ◌/◌, ◌%◌, ◌≤◌, ◌<◌}
use mathlib.Core.Path.{◌≡◌, refl, ◌∙◌}
use mathlib.Core.Bool.{Bool, true, false, cond, ◌||◌}
use mathlib.Core.List.{List}
use native.Mathlib.Omega.{arith}
use native.Mathlib.Decide.{ℕ_discrete}
use native.Mathlib.Nat.{div-lt_iff_lt-mul}
use borrow.Author.Tests.{lt-ltb}
use lib.Dec.{eqb, ltb, lit<}
use lib.ListN.{get_or, set, length-set, get_or-replicate}
use lib.Seq.{get_or-set_same, get_or-set_other}
use Rattle.lists.proofs.Booleans.{and_false}
use Rattle.features.specs.Features.{tvsz, feature_of}
use Rattle.track.specs.Track.{Track}
use Rattle.feature_checks.specs.Records.{record_code, record_value, is_universal}
use Rattle.feature_checks.specs.Features.{feature_codes, too_low, feature_fault}
use Rattle.feature_checks.specs.Bounds.{index_in, bound_of, is_below, bound_at, no_bounds, AreBounds, HasBound}
use Rattle.feature_checks.specs.declared.Bounds.{Bounds}
use Rattle.feature_checks.proofs.Codes.{index_past, index_listed, index_at}

-- a value of 32 bits is too low exactly where it is below the bound
halves : (value : ℕ) → value < 4294967296 → (c : Bool) → cond c (ltb (value / 65536) 65536 || ltb (value % 65536) 0) (ltb value 4294967296) ≡ true
halves value h true = rw (lt-ltb (value / 65536) 65536 ((div-lt_iff_lt-mul {x = value} {y = 65536} (lit< tt)).1 (omega arith)))
halves value h false = lt-ltb value 4294967296 h

pub below_low : (code value : ℕ) (f : Option ℕ) → value < 4294967296 → is_below code value (bound_of f) ≡ too_low code value f
unfolding is_below bound_of too_low
below_low code value (Some v) h = refl
below_low code value None h = halves value h (eqb code tvsz)

module _ (movie : ℕ) (t : Track) where
  -- none yet
  pub no_bound : (b : Bounds) → b ≡ no_bounds → AreBounds movie t b
  no_bound b e = rw e (record { six = refl; known = λ i h n. absurd (n (get_or-replicate 6 i 0 0 h)) })

  -- the bound of a code
  pub bound_is : (code i b : ℕ) (f : Option ℕ) → i ≡ index_in code feature_codes → i < 6 → f ≡ feature_of movie t code → b ≡ bound_of f → 1 + b ≡ bound_at movie t i
  unfolding bound_at
  bound_is code i b f d h e q =
      let k : index_in code feature_codes < 6 = omega arith in
      let z : bound_of (feature_of movie t (get_or feature_codes i 0)) ≡ b = rw (d, index_at code feature_codes k, q, e) refl in
      omega arith

  pub some_bound : (i b : ℕ) → b ≡ bound_at movie t i → 0 < b
  unfolding bound_at
  some_bound i b e = omega arith

  -- the bounds with one more
  pub bound_set : (b : Bounds) (i v : ℕ) → i < 6 → AreBounds movie t b → v ≡ bound_at movie t i
      → HasBound movie t i (record { of = set b.of i v })
  bound_set b i v h a e =
      let s = get_or-set_same b.of i v 0 (omega (arith, a.six)) ∙ e in
      record {
        bounds = record {
          six = length-set b.of i v ∙ a.six;
          known = λ j l n. elim (ℕ_discrete j i) [
            | yes q ↦ rw q s
            | no q ↦ get_or-set_other b.of i j v 0 q ∙ a.known j l (λ z. n (get_or-set_other b.of i j v 0 q ∙ z))
          ];
        };
        here = s;
      }

  -- ---- a record e, from what the code has of it

  -- of one part alone
  pub part_record : (e : List ℕ) → is_universal e ≡ false → feature_fault movie t e ≡ false
  unfolding feature_fault
  part_record e h = rw h

  module _ (e : List ℕ) (i : ℕ) (d : i ≡ index_in (record_code e) feature_codes) where
    -- with another code
    pub other_record : 6 ≤ i → feature_fault movie t e ≡ false
    unfolding feature_fault
    other_record h = rw (index_past (record_code e) feature_codes (omega arith)) (and_false (is_universal e))

    -- universal, with one of the six codes
    pub judged_record : (code value b : ℕ) → code ≡ record_code e → value ≡ record_value e → value < 4294967296 → i < 6 → is_universal e ≡ true
        → b ≡ bound_at movie t i → is_below code value (b - 1) ≡ feature_fault movie t e
    unfolding feature_fault bound_at
    judged_record code value b p r v h u q =
        let k : index_in (record_code e) feature_codes < 6 = omega arith in
        let y : b ≡ suc (bound_of (feature_of movie t (record_code e))) = rw (d, index_at (record_code e) feature_codes k) at q in
        let z : b - 1 ≡ bound_of (feature_of movie t (record_code e)) = omega arith in
        rw (z, p, u, index_listed (record_code e) feature_codes k, ← r) (below_low (record_code e) value (feature_of movie t (record_code e)) v)
