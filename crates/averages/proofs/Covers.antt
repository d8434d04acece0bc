-- Samples between two media times, added by what is found at each; and a sum over the entries of an edit list, entry after entry.
-- Assumes nothing.
use Rattle.std.specs.Prelude.{Option}
use Prim.Native.Nat.{ℕ, suc, ◌+◌, ◌-◌, ◌*◌, ◌≤◌, ◌<◌}
use mathlib.Core.Path.{◌≡◌, refl, ap, ◌∙◌}
use mathlib.Core.Bool.{true}
use mathlib.Core.List.{List, [], ◌∷◌, ◌++◌}
use native.Mathlib.Nat.{mul-le-mul_right}
use native.Mathlib.Omega.{arith}
use lib.ListN.{length}
use Rattle.lists.specs.Lists.{sum, before, between, expand, holder}
use Rattle.lists.proofs.Places.{before_suc, before_le, before_mono, before_drop, holder_holds, holder_mono, holds_below}
use Rattle.lists.proofs.Booleans.{cond_both}
use Rattle.runs.specs.Runs.{runs_of, per_sample, hit_of}
use Rattle.runs.specs.declared.Hit.{Hit}
use Rattle.edits.specs.Edits.{edit_ok, all_ok}
use Rattle.edits.specs.declared.Edit.{Edit}
use Rattle.rates.specs.Rates.{rate_of}
use Rattle.rates.proofs.Orders.{eightfold}
use Rattle.averages.specs.Averages.{Range, range_at, covered_by, covered, added_over, average_over}
use Rattle.averages.specs.Computed.{added_in, added_all, Small, Edited}
use Rattle.averages.specs.declared.Added.{Added}

-- ---- between two media times

between_before : (xs : List ℕ) (i j : ℕ) → i ≤ j → before xs i + between xs i j ≡ before xs j
between_before xs i j h = let e : i + (j - i) ≡ j = omega arith in before_drop xs i (j - i) ∙ ap (before xs) e

pub total_of : (s : List ℕ) → sum (per_sample s) ≡ sum (expand (runs_of s))
unfolding per_sample
total_of s = refl

module _ (s : List ℕ) (t : ℕ) {h : Hit} (e : h ≡ hit_of (runs_of s) t) where
  hit_index : h.index ≡ holder (per_sample s) t
  unfolding hit_of per_sample
  hit_index = ap (λ x. x.index) e

  hit_start : h.start ≡ before (per_sample s) (holder (per_sample s) t)
  unfolding hit_of per_sample
  hit_start = ap (λ x. x.start) e

  hit_end : h.start + h.duration ≡ before (per_sample s) (suc (holder (per_sample s) t))
  unfolding hit_of per_sample
  hit_end = omega (arith, ap (λ x. x.duration) e, hit_start, before_suc (per_sample s) (holder (per_sample s) t))

  pub hit_few : Small s → t < sum (per_sample s) → h.index < 1048576
  hit_few m l = omega (arith, hit_index, (holds_below (per_sample s) t _ (holder_holds (per_sample s) t l)).1, m.few)

  pub hit_fits : Small s → h.start + h.duration < 4294967296
  hit_fits m = omega (arith, hit_end, before_le (per_sample s) (suc (holder (per_sample s) t)), m.total_fits)

module _ (s zs : List ℕ) (a b : ℕ) {f g : Hit} (p : f ≡ hit_of (runs_of s) a) (q : g ≡ hit_of (runs_of s) b) (m : Small s) (o : a ≤ b) (l : b < sum (per_sample s)) where
  pub starts_before : f.start ≤ g.start + g.duration
  starts_before =
      let w = holder_mono (per_sample s) a b o in
      omega (arith, hit_start s a p, hit_end s b q, before_mono (per_sample s) (holder (per_sample s) a) (suc (holder (per_sample s) b)) (omega arith))

  pub added_is : (x : ℕ) → x ≡ between zs f.index (g.index + 1) → x ≤ (g.index + 1 - f.index) * 4294967295
      → (record { bytes = x; units = g.start + g.duration - f.start } ≡ added_in (per_sample s) zs (range_at (per_sample s) a b))
      × (x ≤ 4503599627370496) × (g.start + g.duration - f.start < 4294967296)
  added_is x e k =
      let ds = per_sample s in
      let w = holder_mono ds a b o in
      let n : g.index + 1 ≡ suc (holder ds b) = omega (arith, hit_index s b q) in
      let u : g.start + g.duration - f.start ≡ between ds (holder ds a) (suc (holder ds b)) =
      omega (arith, hit_start s a p, hit_end s b q, between_before ds (holder ds a) (suc (holder ds b)) (omega arith))
      in
      let c : g.index + 1 - f.index ≤ 1048576 = omega (arith, hit_few s b q m l) in (
        λ i. record { bytes = (e ∙ ap (λ (y : ℕ). between zs y (g.index + 1)) (hit_index s a p) ∙ ap (between zs (holder ds a)) n) i; units = u i },
        omega (arith, mul-le-mul_right 4294967295 c),
        omega (arith, hit_fits s b q m),
      )

-- ---- entry after entry

added_append : (xs : List ℕ) (a b : List Range) → added_over xs (a ++ b) ≡ added_over xs a + added_over xs b
added_append xs [] b = omega arith
added_append xs (r ∷ a) b = omega (arith, added_append xs a b)

-- what an entry that covers one range adds
pub added_one : (ds zs : List ℕ) (r : Range) → added_in ds zs r ≡ added_all ds zs (r ∷ [])
added_one ds zs r =
    let x : between zs r.from r.stop ≡ between zs r.from r.stop + 0 = omega arith in
    let y : between ds r.from r.stop ≡ between ds r.from r.stop + 0 = omega arith in
    λ i. record { bytes = x i; units = y i }

-- of the entries es, those up to the rest are added; what is left leaves room
pub record Adding (scale movie : ℕ) (ds zs : List ℕ) (es rest : List Edit) (bytes units : ℕ) : Type 0 where
  pub bytes_added : bytes + added_over zs (covered scale movie ds rest) ≡ added_over zs (covered scale movie ds es)
  pub units_added : units + added_over ds (covered scale movie ds rest) ≡ added_over ds (covered scale movie ds es)
  pub bytes_fit : bytes + length rest * 4503599627370496 ≤ 1152921504606846976
  pub units_fit : units + length rest * 4294967296 ≤ 1099511627776
  pub right : all_ok scale movie (sum ds) rest ≡ true

module _ (scale movie : ℕ) (ds zs : List ℕ) where
  pub adding_none : (es : List Edit) → Edited scale movie (sum ds) es → Adding scale movie ds zs es es 0 0
  adding_none es h = record {
    bytes_added = omega arith;
    units_added = omega arith;
    bytes_fit = omega (arith, mul-le-mul_right 4503599627370496 h.few);
    units_fit = omega (arith, mul-le-mul_right 4294967296 h.few);
    right = h.right;
  }

  module _ {es : List Edit} {e : Edit} {rest : List Edit} {bytes units : ℕ} (a : Adding scale movie ds zs es (e ∷ rest) bytes units) where
    pub adding_right : edit_ok scale movie (sum ds) e ≡ true
    adding_right = (cond_both (edit_ok scale movie (sum ds) e) (all_ok scale movie (sum ds) rest) a.right).0

    -- there is room for what an entry adds
    pub adding_room : (bytes + 4503599627370496 ≤ 1152921504606846976) × (units + 4294967296 ≤ 1099511627776)
    adding_room = (omega (arith, a.bytes_fit), omega (arith, a.units_fit))

    pub adding_next : (x : Added) → x ≡ added_all ds zs (covered_by scale movie ds e) → x.bytes ≤ 4503599627370496 → x.units < 4294967296
        → Adding scale movie ds zs es rest (bytes + x.bytes) (units + x.units)
    adding_next x p h k = record {
      bytes_added = omega (arith, a.bytes_added, ap (λ y. y.bytes) p, added_append zs (covered_by scale movie ds e) (covered scale movie ds rest));
      units_added = omega (arith, a.units_added, ap (λ y. y.units) p, added_append ds (covered_by scale movie ds e) (covered scale movie ds rest));
      bytes_fit = omega (arith, a.bytes_fit);
      units_fit = omega (arith, a.units_fit);
      right = (cond_both (edit_ok scale movie (sum ds) e) (all_ok scale movie (sum ds) rest) a.right).1;
    }

  pub adding_end : {es : List Edit} {bytes units : ℕ} → Adding scale movie ds zs es [] bytes units
      → record { bytes = bytes; units = units } ≡ added_all ds zs (covered scale movie ds es)
  adding_end {es} {bytes} {units} a =
      let x : bytes ≡ added_over zs (covered scale movie ds es) = omega (arith, a.bytes_added) in
      let y : units ≡ added_over ds (covered scale movie ds es) = omega (arith, a.units_added) in
      λ i. record { bytes = x i; units = y i }

-- 8 may stand with either factor
pub average_is : (scale : ℕ) (ds zs : List ℕ) (rs : List Range) (x : Added) (r : Option ℕ) → x ≡ added_all ds zs rs → r ≡ rate_of (x.bytes * (8 * scale)) x.units
    → r ≡ average_over scale ds zs rs
unfolding average_over
average_is scale ds zs rs x r p e =
    e ∙ ap (λ (n : ℕ). rate_of n x.units) (eightfold x.bytes scale) ∙ ap (λ (y : Added). rate_of (8 * y.bytes * scale) y.units) p
