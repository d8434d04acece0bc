-- Units more for a scale, as the code adds them: a scale that is met, a new one, and one for which there is no place.
-- Assumes nothing.
use Prim.Native.Nat.{ℕ, zero, suc, ◌+◌, ◌≤◌, ◌<◌, min}
use mathlib.Core.Path.{◌≡◌, refl, sym, ap, ◌∙◌}
use mathlib.Core.Bool.{Bool, true, false, cond}
use mathlib.Core.List.{List, [], ◌∷◌, ◌++◌}
use native.Mathlib.Omega.{arith}
use lib.ListN.{length, get_or, set, take, length-take, length-set, length-append}
use lib.Seq.{get_or-take, take-suc-set}
use lib.Dec.{leb}
use borrow.Author.Tests.{leb-true}
use Rattle.return_totals.specs.Returns.{Scale, with_units, any_over, scales_from, scales_in}
use Rattle.return_totals.specs.Following.{place_of, met_in, units_in, Sums, AddsUnits}
use Rattle.return_totals.specs.declared.FilmReturn.{FilmReturn}
use Rattle.return_totals.proofs.Overs.{over_set}
use Rattle.return_totals.proofs.Keeping.{keeps_self, keeps_changed, keeps_new}
use Rattle.return_totals.proofs.Scales.{place_most, from_met, from_units, from_length, units_found, units_new, take_set}

-- r with other scales, and with other units
abbrev pub scaled : FilmReturn → ℕ → List ℕ → List ℕ → FilmReturn
scaled r n ks us =
    record { accepted = r.accepted; refused = r.refused; tracks = r.tracks; samples = r.samples; bytes = r.bytes; count = n; scales = ks; units = us }

pub not20 : (b : Bool) → ◌≡◌ {A = ℕ} (cond b 21 0) 20 → ⊥
not20 true e = omega arith
not20 false e = omega arith

pub is21 : (b : Bool) → ◌≡◌ {A = ℕ} (cond b 21 0) 21 → b ≡ true
is21 true e = refl
is21 false e = absurd (omega arith)

pub not21 : (b : Bool) (q : ℕ) → q ≡ cond b 21 0 → (q ≡ 21 → ⊥) → b ≡ false
not21 true q e f = absurd (f e)
not21 false q e f = refl

module _ (r : FilmReturn) (k u : ℕ) (ls : length r.scales ≡ 32) (lu : length r.units ≡ 32) (n i : ℕ) (en : n ≡ min r.count 32) (ei : i ≡ place_of k (take n r.scales)) where
  most : n ≤ 32
  most = omega arith

  long : length (take n r.scales) ≡ n
  long = omega (arith, most, length-take n r.scales)

  as_long : length (take n r.scales) ≡ length (take n r.units)
  as_long = omega (arith, most, length-take n r.scales, length-take n r.units)

  pub place_within : i ≤ n
  place_within = omega (arith, place_most k (take n r.scales), long)

  in_first : scales_in r ≡ scales_from (take n r.scales) (take n r.units)
  unfolding scales_in
  in_first = rw en

  is_new : i ≡ n → with_units k u (scales_in r) ≡ scales_from (take n r.scales ++ k ∷ []) (take n r.units ++ u ∷ [])
  is_new h = rw in_first (units_new k u (take n r.scales) (take n r.units) as_long (omega (arith, long)))

  is_found : i < n → with_units k u (scales_in r) ≡ scales_from (take n r.scales) (set (take n r.units) i (get_or r.units i 0 + u))
  is_found h =
      let f = units_found k u (take n r.scales) (take n r.units) as_long (omega (arith, long)) in
      let g = rw (← ei) at f in
      rw in_first (rw (get_or-take n r.units i 0 h) at g)

  -- no place is left
  pub no_place : 32 ≤ i → AddsUnits r k u (record { refusal = 20; totals = r })
  no_place h =
      let e = is_new (omega (arith, place_within, most)) in
      let l = from_length (take n r.scales ++ k ∷ []) (take n r.units ++ u ∷ []) (omega (arith, as_long, length-append (take n r.scales) (k ∷ []), length-append (take n r.units) (u ∷ []))) in
      record {
        accepted = refl;
        refused = refl;
        tracks = refl;
        samples = refl;
        bytes = refl;
        full = λ q. rw e (omega (arith, l, long, length-append (take n r.scales) (k ∷ []), place_within));
        over = λ q. absurd (omega arith);
        met = λ q. absurd (q refl);
        kept = λ q w. absurd (q refl);
        keeps = keeps_self r ls lu;
      }

  -- a scale that was not met before
  new_in : i ≡ n → i < 32 → scales_in (scaled r (n + 1) (set r.scales i k) (set r.units i u)) ≡ with_units k u (scales_in r)
  unfolding scales_in
  new_in h g =
      let m : min (n + 1) 32 ≡ suc n = omega arith in
      rw (m, h, take-suc-set r.scales n k (omega arith), take-suc-set r.units n u (omega arith)) (sym (is_new h))

  pub new_scale : i < 32 → i ≡ n → AddsUnits r k u (record { refusal = 0; totals = scaled r (n + 1) (set r.scales i k) (set r.units i u) })
  new_scale g h = record {
    accepted = refl;
    refused = refl;
    tracks = refl;
    samples = refl;
    bytes = refl;
    full = λ q. absurd (omega arith);
    over = λ q. absurd (omega arith);
    met = λ q. ap met_in (new_in h g);
    kept = λ q w. (refl, new_in h g);
    keeps = keeps_new r (scaled r (n + 1) (set r.scales i k) (set r.units i u)) ls lu i k u (omega arith) refl refl g (h ∙ en);
  }

  -- a scale that was met
  found_in : (x : ℕ) → scales_in (scaled r r.count r.scales (set r.units i x)) ≡ scales_from (take n r.scales) (set (take n r.units) i x)
  unfolding scales_in
  found_in x = rw (← en, take_set n i x r.units)

  found_met : (x y : ℕ) → met_in (scales_from (take n r.scales) (set (take n r.units) i x)) ≡ met_in (scales_from (take n r.scales) (set (take n r.units) i y))
  found_met x y =
      from_met (take n r.scales) (set (take n r.units) i x) (omega (arith, as_long, length-set (take n r.units) i x)) ∙ sym (from_met (take n r.scales) (set (take n r.units) i y) (omega (arith, as_long, length-set (take n r.units) i y)))

  found_over : (x : ℕ) → i < n → 18446744073709551616 ≤ x → any_over (units_in (scales_from (take n r.scales) (set (take n r.units) i x))) ≡ true
  found_over x h g =
      ap any_over (from_units (take n r.scales) (set (take n r.units) i x) (omega (arith, as_long, length-set (take n r.units) i x)))
      ∙ over_set (take n r.units) i x (omega (arith, as_long, long)) g

  pub met_scale : (i ≡ n → ⊥) → (x : ℕ × Bool) → Sums (get_or r.units i 0) u x → (q : ℕ) → q ≡ cond x.1 21 0
      → AddsUnits r k u (record { refusal = q; totals = scaled r r.count r.scales (set r.units i x.0) })
  met_scale m x z q e =
      let h : i < n = omega (arith, place_within) in
      record {
        accepted = refl;
        refused = refl;
        tracks = refl;
        samples = refl;
        bytes = refl;
        full = λ d. absurd (not20 x.1 (sym e ∙ d));
        over = λ d. rw (is_found h) (found_over (get_or r.units i 0 + u) h (leb-true 18446744073709551616 _ (sym z.over ∙ is21 x.1 (sym e ∙ d))));
        met = λ d. rw (found_in x.0, is_found h) (found_met x.0 (get_or r.units i 0 + u));
        kept = λ d w. let b = not21 x.1 q e w in (e ∙ rw b, rw (found_in x.0, is_found h, z.sum b));
        keeps = keeps_changed r (scaled r r.count r.scales (set r.units i x.0)) ls lu i x.0 refl refl refl (omega (arith, h, en));
      }
