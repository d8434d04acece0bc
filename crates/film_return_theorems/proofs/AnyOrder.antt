-- Where no film is refused 20 or 21, any order of filing gives the same totals: without a limit they are sums over the films, and since totals only grow
-- none is refused exactly if the last return is within the limits.
-- Assumes nothing.
use Prim.Native.Nat.{ℕ, ◌+◌, ◌≤◌}
use mathlib.Core.Path.{◌≡◌, refl, sym, ap, ◌∙◌}
use mathlib.Core.Bool.{Bool, true, false, cond}
use mathlib.Core.List.{List, [], ◌∷◌, map}
use native.Mathlib.Omega.{arith}
use lib.ListN.{length, get_or}
use lib.Seq.{ext_get_or}
use lib.Dec.{leb, ltb, eqb}
use borrow.Author.Tests.{eqb-true, eq-eqb, ne_eqb, ltb-false, le-ltb}
use Rattle.lists.specs.Lists.{sum}
use Rattle.lists.proofs.Booleans.{or_left, or_right, or_neither}
use Rattle.return_totals.specs.Returns.{Scale, Return, empty_return, with_units, any_over, totals_in, limit_refusal, return_of}
use Rattle.return_totals.specs.declared.FilmReturn.{FilmReturn}
use Rattle.return_totals.specs.Following.{units_in}
use Rattle.return_totals.specs.declared.TrackTotals.{TrackTotals}
use Rattle.return_totals.proofs.Overs.{over_append}
use Rattle.return_totals.proofs.Scales.{units_longer}
use Rattle.theorems.proofs.Refusals.{strict_reading}
use Rattle.film_return.specs.Films.{filed_refusal, filed_return}
use Rattle.film_return_theorems.specs.Filing.{Film, filed_all, kept_of, NoneRefused, refusal_of, accepted_in, refused_in, tracks_in, samples_in, bytes_in, joined, Reordered, SameTotals, AnyOrder, Limits, FiledBy, ByDefault, OfMany}
use Rattle.film_return_theorems.proofs.Scales.{with_all, all_append, Same, Sole, tracks_order, all_sole, same_within}
use Rattle.film_return_theorems.proofs.Meeting.{tracks_reordered}
use Rattle.film_return_theorems.proofs.Orders.{order_sum, order_joined}
use Rattle.film_return_theorems.proofs.Films.{with_it, slot_in, film_adds}
use Rattle.film_return_theorems.proofs.Sums.{filed_in, filed_out, Fourteen, each_total}

-- ---- without a limit

abbrev pub unlimited : Return → List Film → Return
unlimited r [] = r
unlimited r (f ∷ fs) = unlimited (with_it f r) fs

module _ (n : Return → ℕ) (a : Film → ℕ) (P : Return → Type 0) (h : (f : Film) (r : Return) → P r → (n (with_it f r) ≡ n r + a f) × P (with_it f r)) where
  pub all_number : (fs : List Film) (r : Return) → P r → n (unlimited r fs) ≡ n r + sum (map a fs)
  all_number [] r p = omega arith
  all_number (f ∷ fs) r p = let x = h f r p in omega (arith, all_number fs (with_it f r) x.1, x.0)

  order_number : {fs gs : List Film} → Reordered fs gs → (r : Return) → P r → n (unlimited r fs) ≡ n (unlimited r gs)
  order_number {fs} {gs} o r p = omega (arith, all_number fs r p, all_number gs r p, order_sum a o)

pub all_fourteen : (fs : List Film) (r : Return) → Fourteen r → Fourteen (unlimited r fs)
all_fourteen [] r e = e
all_fourteen (f ∷ fs) r e = all_fourteen fs (with_it f r) ((film_adds f r).long ∙ e)

pub all_scales : (fs : List Film) (r : Return) → (unlimited r fs).scales ≡ with_all (joined tracks_in fs) r.scales
all_scales [] r = refl
all_scales (f ∷ fs) r =
    all_scales fs (with_it f r) ∙ ap (with_all (joined tracks_in fs)) (film_adds f r).scales ∙ sym (all_append (tracks_in f) (joined tracks_in fs) r.scales)

abbrev pub Any : Return → Type 0
Any r = Unit {0}

module _ {fs gs : List Film} (o : Reordered fs gs) where
  order_scales : Same (unlimited empty_return fs).scales (unlimited empty_return gs).scales
  order_scales = rw (all_scales fs empty_return, all_scales gs empty_return) (tracks_order (order_joined tracks_in o) ([]))

  order_same : SameTotals (unlimited empty_return fs) (unlimited empty_return gs)
  order_same =
      record {
        accepted = order_number (λ r. r.accepted) accepted_in Any (λ f r p. ((film_adds f r).accepted, tt)) o empty_return tt;
        refused =
            ext_get_or 0 (unlimited empty_return fs).refused (unlimited empty_return gs).refused (all_fourteen fs empty_return refl ∙ sym (all_fourteen gs empty_return refl))
            (λ i h. order_number (λ r. get_or r.refused i 0) (slot_in i) Fourteen (λ f r p. ((film_adds f r).slot i p, (film_adds f r).long ∙ p)) o empty_return refl);
        tracks = order_number (λ r. r.tracks) (λ f. length (tracks_in f)) Any (λ f r p. ((film_adds f r).tracks, tt)) o empty_return tt;
        samples = order_number (λ r. r.samples) samples_in Any (λ f r p. ((film_adds f r).samples, tt)) o empty_return tt;
        bytes = order_number (λ r. r.bytes) bytes_in Any (λ f r p. ((film_adds f r).bytes, tt)) o empty_return tt;
        scales = rw (all_scales fs empty_return, all_scales gs empty_return) (tracks_reordered (order_joined tracks_in o));
      }

-- ---- within the limits

not_20 : (b : Bool) (x : ℕ) → cond b 20 x ≡ 0 → (b ≡ false) × (x ≡ 0)
not_20 true x e = absurd (omega arith)
not_20 false x e = (refl, e)

not_21 : (b : Bool) → ◌≡◌ {A = ℕ} (cond b 21 0) 0 → b ≡ false
not_21 true e = absurd (omega arith)
not_21 false e = refl

within_of : (r : Return) → limit_refusal r ≡ 0 → Limits r
unfolding limit_refusal
within_of r e = let x = not_20 (ltb 32 (length r.scales)) _ e in record { few = ltb-false _ _ x.0; none = not_21 _ x.1 }

pub of_within : (r : Return) → Limits r → limit_refusal r ≡ 0
unfolding limit_refusal
of_within r w = rw (le-ltb 32 (length r.scales) w.few, w.none)

all_longer : (ts : List TrackTotals) (l : List Scale) → length l ≤ length (with_all ts l)
all_longer [] l = omega arith
all_longer (t ∷ ts) l = omega (arith, units_longer t.scale t.total l, all_longer ts (with_units t.scale t.total l))

not_over : (b c : Bool) → (b ≡ true → c ≡ true) → c ≡ false → b ≡ false
not_over true c f e = sym (f refl) ∙ e
not_over false c f e = refl

-- a return to which a film was added was within them before
within_back : (f : Film) (r : Return) → Limits (with_it f r) → Limits r
within_back f r w = record {
  few = omega (arith, w.few, ap length (film_adds f r).scales, all_longer (tracks_in f) r.scales);
  none = not_over (any_over (totals_in r)) (any_over (totals_in (with_it f r))) (film_adds f r).over w.none;
}

all_back : (fs : List Film) (r : Return) → Limits (unlimited r fs) → Limits r
all_back [] r w = w
all_back (f ∷ fs) r w = within_back f r (all_back fs (with_it f r) w)

filed_none : (r : Return) (f : Film) → filed_refusal r f.bytes f.source ≡ 0 → filed_return r f.bytes f.source ≡ with_it f r
filed_none r f z = filed_in r f (eq-eqb _ 0 z)

pub none_all : (fs : List Film) (r : Return) → Limits r → NoneRefused r fs → (filed_all r fs ≡ unlimited r fs) × Limits (unlimited r fs)
unfolding filed_refusal
none_all [] r w n = (refl, w)
none_all (f ∷ fs) r w n =
    let e = filed_none r f n.0 in
    let k = none_all fs (with_it f r) (within_of (with_it f r) n.0) (rw e at n.1) in
    (rw e k.0, k.1)

all_none : (fs : List Film) (r : Return) → Limits (unlimited r fs) → NoneRefused r fs
unfolding filed_refusal
all_none [] r w = tt
all_none (f ∷ fs) r w =
    let z = of_within (with_it f r) (all_back fs (with_it f r) w) in
    (z, rw (filed_none r f z) (all_none fs (with_it f r) w))

pub empty_within : Limits empty_return
empty_within = record { few = omega arith; none = refl }

-- ---- the claim

same_limits : (r s : Return) → Sole r.scales → Same r.scales s.scales → SameTotals r s → Limits r → Limits s
same_limits r s o m t w =
    let a = w.none in
    let b = or_right (leb 18446744073709551616 r.accepted) _ a in
    let c = or_right (leb 18446744073709551616 r.tracks) _ b in
    let d = or_right (leb 18446744073709551616 r.samples) _ c in
    let e = sym (over_append r.refused (units_in r.scales)) ∙ or_right (leb 18446744073709551616 r.bytes) _ d in
    record {
      few = omega (arith, m.many, w.few);
      none = rw (← t.accepted, ← t.tracks, ← t.samples, ← t.bytes, ← t.refused)
          (or_neither (leb 18446744073709551616 r.accepted) _ (or_left _ _ a)
          (or_neither (leb 18446744073709551616 r.tracks) _ (or_left _ _ b)
          (or_neither (leb 18446744073709551616 r.samples) _ (or_left _ _ c)
          (or_neither (leb 18446744073709551616 r.bytes) _ (or_left _ _ d)
          (over_append r.refused (units_in s.scales) ∙ or_neither (any_over r.refused) _ (or_left _ _ e) (same_within r.scales s.scales o m (or_right (any_over r.refused) _ e)))))));
    }

pub any_order : {fs gs : List Film} → Reordered fs gs → NoneRefused empty_return fs → AnyOrder fs gs
any_order {fs} {gs} o n =
    let a = none_all fs empty_return empty_within n in
    let t = order_same o in
    let z : Sole (unlimited empty_return fs).scales = rw (all_scales fs empty_return) (all_sole (joined tracks_in fs) ([]) (λ k. refl)) in
    let w = same_limits (unlimited empty_return fs) (unlimited empty_return gs) z (order_scales o) t a.1 in
    let q = all_none gs empty_return w in
    let b = none_all gs empty_return empty_within q in
    record { none_refused = q; same = rw (a.0, b.0) t }

-- ---- every return that films are filed in is within the limits

turn_within : (f : Film) (r : Return) → Limits r → Limits (filed_return r f.bytes f.source)
unfolding filed_refusal
turn_within f r w = go (eqb (filed_refusal r f.bytes f.source) 0) refl
  where
    go : (b : Bool) → eqb (filed_refusal r f.bytes f.source) 0 ≡ b → Limits (filed_return r f.bytes f.source)
    go true e = rw (filed_in r f e) (within_of (with_it f r) (eqb-true _ 0 e))
    go false e = rw (filed_out r f e) w

all_within : (fs : List Film) (r : Return) → Limits r → Limits (filed_all r fs)
all_within [] r w = w
all_within (f ∷ fs) r w = all_within fs (filed_return r f.bytes f.source) (turn_within f r w)

-- ---- read by default no film is refused 11

not_eleven : (f : Film) → f.source.strict ≡ false → refused_in 11 f ≡ 0
unfolding refused_in
not_eleven f d = rw (ne_eqb (refusal_of f) 11 ((strict_reading f.bytes f.source).only d))

none_eleven : (fs : List Film) (r : Return) → ByDefault fs → sum (map (refused_in 11) (kept_of r fs)) ≡ 0
none_eleven [] r d = refl
none_eleven (f ∷ fs) r d = go (eqb (filed_refusal r f.bytes f.source) 0) (not_eleven f d.0) (none_eleven fs (filed_return r f.bytes f.source) d.1)
  where
    go : (b : Bool) → refused_in 11 f ≡ 0 → sum (map (refused_in 11) (kept_of (filed_return r f.bytes f.source) fs)) ≡ 0
        → sum (map (refused_in 11) (cond b (f ∷ kept_of (filed_return r f.bytes f.source) fs) (kept_of (filed_return r f.bytes f.source) fs))) ≡ 0
    go true e ih = omega (arith, e, ih)
    go false e ih = ih

-- ---- the code's states

run_is : (fs : List Film) (r q : FilmReturn) → FiledBy r fs q → return_of q ≡ filed_all (return_of r) fs
run_is [] r q h = h
run_is (f ∷ fs) r q h = run_is fs h.0.totals q h.2 ∙ ap (λ s. filed_all s fs) h.1.totals

pub of_many : (fs : List Film) → OfMany fs
of_many fs = record {
  each_total = each_total fs;
  any_order = λ gs o n. any_order o n;
  limits = all_within fs empty_return empty_within;
  eleven = λ d. (each_total fs).refused 11 refl ∙ none_eleven fs empty_return d;
  run = λ r q e h. run_is fs r q h ∙ ap (λ s. filed_all s fs) e;
}
