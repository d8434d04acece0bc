-- What the code keeps of a return while more is added: a scale, counts, refused files, and the answer.
-- Assumes nothing.
use Prim.Native.Nat.{ℕ, zero, suc, ◌+◌, ◌≤◌, ◌<◌, min}
use native.Mathlib.Nat.{add-zero}
use mathlib.Core.Path.{◌≡◌, refl, sym, ap, ◌∙◌}
use mathlib.Core.Bool.{Bool, true, false, cond, ◌||◌}
use mathlib.Core.List.{List, [], ◌∷◌, ◌++◌}
use native.Mathlib.Omega.{arith}
use native.Mathlib.Decide.{ℕ_discrete}
use lib.ListN.{length, get_or, set, take}
use lib.Dec.{eqb}
use borrow.Author.Tests.{eqb-true, eqb-false, eq-eqb, ne_eqb, lt-ltb, le-ltb, leb-true, lt-leb}
use Rattle.lists.proofs.Booleans.{or_left, or_right, or_neither, or_second}
use Rattle.return_totals.specs.Returns.{Scale, Return, with_units, with_track, with_accepted, with_refused, slot_of, any_over, totals_in, limit_refusal, limited, scales_in, return_of}
use Rattle.return_totals.specs.Following.{met_in, units_in, Sums, Keeps, AddsUnits, Follows, Settles, later_refusal, unchanged, with_met, with_counts, with_slots, more_at, with_more_at}
use Rattle.return_totals.specs.declared.Counts.{Counts}
use Rattle.return_totals.specs.declared.FilmReturn.{FilmReturn}
use Rattle.return_totals.specs.declared.TrackTotals.{TrackTotals}
use Rattle.return_totals.specs.declared.Filed.{Filed}
use Rattle.return_totals.proofs.Overs.{or_first, over_second, over_third, over_fourth, over_rest, over_append, over_set, over_set_more, within_take, within_from, met_over, counts_over, slots_over}
use Rattle.return_totals.proofs.Scales.{same_met, met_length, units_longer}
use Rattle.return_totals.proofs.Keeping.{held_few, keeps_self, keeps_then, keeps_as}
use Rattle.return_totals.proofs.Units.{not20, is21, not21}

-- ---- a state that no total passes

pub record Held (t : FilmReturn) : Type 0 where
  pub accepted : t.accepted < 18446744073709551616
  pub refused : any_over t.refused ≡ false
  pub tracks : t.tracks < 18446744073709551616
  pub samples : t.samples < 18446744073709551616
  pub bytes : t.bytes < 18446744073709551616
  pub units : any_over t.units ≡ false

held_within : (t : FilmReturn) → Held t → any_over (totals_in (return_of t)) ≡ false
unfolding return_of scales_in
held_within t h =
    or_neither _ _ (lt-leb 18446744073709551616 t.accepted h.accepted)
    (or_neither _ _ (lt-leb 18446744073709551616 t.tracks h.tracks)
    (or_neither _ _ (lt-leb 18446744073709551616 t.samples h.samples)
    (or_neither _ _ (lt-leb 18446744073709551616 t.bytes h.bytes)
    (over_append t.refused _
    ∙ or_neither _ _ h.refused (within_from (take (min t.count 32) t.scales) _ (within_take (min t.count 32) t.units h.units))))))

met_few : (t : FilmReturn) (s : Return) → met_in (scales_in t) ≡ met_in s.scales → length s.scales ≤ 32
met_few t s e = omega (arith, held_few t, met_length (scales_in t), met_length s.scales, ap length e)

-- ---- the answer

module _ (r : FilmReturn) (f : Filed) (s : Return) (w : Follows r s f) where
  refused_by : (f.refusal ≡ 0 → ⊥) → f.refusal ≡ limit_refusal s
  unfolding limit_refusal
  refused_by n = elim (ℕ_discrete f.refusal 20) [
    | yes e ↦ e ∙ rw (lt-ltb 32 (length s.scales) (w.full e))
    | no d ↦ elim (ℕ_discrete f.refusal 21) [
      | yes e ↦ e ∙ rw (le-ltb 32 (length s.scales) (met_few f.totals s (w.met d)), w.over e)
      | no g ↦ absurd (n (w.kept d g).0)
    ]
  ]

  pub settle_refused : length r.scales ≡ 32 → length r.units ≡ 32 → (f.refusal ≡ 0 → ⊥) → Settles r s (record { refusal = f.refusal; totals = r })
  unfolding limited
  settle_refused ls lu n =
      let e = refused_by n in
      record { refusal = e; totals = rw (ne_eqb (limit_refusal s) 0 (λ q. n (e ∙ q))); rest = (keeps_self r ls lu).rest; left = λ q. refl }

  pub settle_kept : f.refusal ≡ 0 → Held f.totals → Settles r s f
  unfolding limited limit_refusal return_of
  settle_kept z h =
      let d : f.refusal ≡ 20 → ⊥ = λ q. omega arith in
      let k = (w.kept d (λ q. omega arith)).1 in
      let o : any_over (totals_in s) ≡ false = ap (λ x. any_over (totals_in x)) (sym k) ∙ held_within f.totals h in
      let l : limit_refusal s ≡ 0 = rw (le-ltb 32 (length s.scales) (met_few f.totals s (w.met d)), o) in
      record { refusal = z ∙ sym l; totals = k ∙ rw l; rest = w.keeps.rest; left = λ q. absurd (q z) }

-- ---- a step: more is added to what f is so far, of which t is made

pub nothing_yet : (r : FilmReturn) → length r.scales ≡ 32 → length r.units ≡ 32 → Follows r (return_of r) (unchanged r)
unfolding return_of
nothing_yet r ls lu = record {
  full = λ q. absurd (omega arith);
  over = λ q. absurd (omega arith);
  met = λ q. refl;
  kept = λ q v. (refl, refl);
  keeps = keeps_self r ls lu;
}

module _ (r : FilmReturn) (s new : Return) (f : Filed) (w : Follows r s f) (t : FilmReturn) (over : Bool)
    (longer : length s.scales ≤ length new.scales) (grown : any_over (totals_in s) ≡ true → any_over (totals_in new) ≡ true)
    (met : (f.refusal ≡ 20 → ⊥) → met_in (scales_in t) ≡ met_in new.scales)
    (passes : return_of f.totals ≡ s → over ≡ true → any_over (totals_in new) ≡ true)
    (makes : return_of f.totals ≡ s → over ≡ false → return_of t ≡ new)
    (keeps : Keeps r t) where
  pub step : (q : ℕ) → q ≡ later_refusal f.refusal over → Follows r new (record { refusal = q; totals = t })
  step q e = elim (ℕ_discrete f.refusal 20) [
    | yes d ↦
        let z : q ≡ 20 = e ∙ rw (eq-eqb f.refusal 20 d) in
        record { full = λ g. omega (arith, w.full d, longer); over = λ g. absurd (omega arith); met = λ g. absurd (g z); kept = λ g v. absurd (g z); keeps = keeps }
    | no d ↦ elim (ℕ_discrete f.refusal 21) [
      | yes c ↦
          let z : q ≡ 21 = e ∙ rw (ne_eqb f.refusal 20 d, eq-eqb f.refusal 21 c) in
          record { full = λ g. absurd (omega arith); over = λ g. grown (w.over c); met = λ g. met d; kept = λ g v. absurd (v z); keeps = keeps }
      | no c ↦
          let z : q ≡ cond over 21 0 = e ∙ rw (ne_eqb f.refusal 20 d, ne_eqb f.refusal 21 c) in
          let k = (w.kept d c).1 in
          record {
            full = λ g. absurd (not20 over (sym z ∙ g));
            over = λ g. passes k (is21 over (sym z ∙ g));
            met = λ g. met d;
            kept = λ g v. let b = not21 over q z v in (z ∙ rw b, makes k b);
            keeps = keeps;
          }
    ]
  ]

-- ---- a scale

module _ (f : Filed) (k u : ℕ) (a : Filed) (z : AddsUnits f.totals k u a) (r : FilmReturn) (s : Return) (w : Follows r s f) where
  abbrev one : List Scale
  one = record { scale = k; total = u } ∷ []

  pub no_more : a.refusal ≡ 20 → Follows r (with_met one s) (record { refusal = 20; totals = f.totals })
  unfolding with_met
  no_more e = record {
    full = λ q. elim (ℕ_discrete f.refusal 20) [
      | yes d ↦ let g = w.full d in omega (arith, units_longer k u s.scales)
      | no d ↦
          let g = z.full e in
          let m = same_met k u (scales_in f.totals) s.scales (w.met d) in
          omega (arith, ap length m, met_length (with_units k u (scales_in f.totals)), met_length (with_units k u s.scales))
    ];
    over = λ q. absurd (omega arith);
    met = λ q. absurd (q refl);
    kept = λ q v. absurd (q refl);
    keeps = w.keeps;
  }

  scale_over : return_of f.totals ≡ s → eqb a.refusal 21 ≡ true → any_over (totals_in (with_met one s)) ≡ true
  unfolding with_met return_of
  scale_over e o =
      rw (← e)
      (over_rest f.totals.accepted f.totals.tracks f.totals.samples f.totals.bytes (f.totals.refused ++ units_in (with_units k u (scales_in f.totals)))
      (over_append f.totals.refused (units_in (with_units k u (scales_in f.totals))) ∙ or_second (any_over f.totals.refused) _ (z.over (eqb-true _ _ o))))

  module _ (n : a.refusal ≡ 20 → ⊥) where
    scale_made : return_of f.totals ≡ s → eqb a.refusal 21 ≡ false → return_of a.totals ≡ with_met one s
    unfolding with_met return_of scales_in
    scale_made e o =
        let l = (z.kept n (eqb-false _ _ o)).1 in
        rw (← e, z.accepted, z.refused, z.tracks, z.samples, z.bytes)
        (ap (λ m. record { accepted = f.totals.accepted; refused = f.totals.refused; tracks = f.totals.tracks; samples = f.totals.samples; bytes = f.totals.bytes; scales = m }) l)

    scale_met : (f.refusal ≡ 20 → ⊥) → met_in (scales_in a.totals) ≡ met_in (with_met one s).scales
    unfolding with_met
    scale_met d = z.met n ∙ same_met k u (scales_in f.totals) s.scales (w.met d)

    scale_longer : length s.scales ≤ length (with_met one s).scales
    unfolding with_met
    scale_longer = units_longer k u s.scales

    pub one_scale : (q : ℕ) → q ≡ later_refusal f.refusal (eqb a.refusal 21) → Follows r (with_met one s) (record { refusal = q; totals = a.totals })
    one_scale =
        step r s (with_met one s) f w a.totals (eqb a.refusal 21) scale_longer (met_over one s) scale_met scale_over scale_made
        (keeps_then r f.totals a.totals w.keeps z.keeps)

-- ---- counts

module _ (f : Filed) (c : Counts) (a t m b : ℕ × Bool) (za : Sums f.totals.accepted c.accepted a) (zt : Sums f.totals.tracks c.tracks t) (zm : Sums f.totals.samples c.samples m)
    (zb : Sums f.totals.bytes c.bytes b) (over : Bool) (o : over ≡ ((a.1 || t.1) || (m.1 || b.1))) (r : FilmReturn) (s : Return) (w : Follows r s f) where
  abbrev pub counted : FilmReturn
  counted = record {
    accepted = a.0;
    refused = f.totals.refused;
    tracks = t.0;
    samples = m.0;
    bytes = b.0;
    count = f.totals.count;
    scales = f.totals.scales;
    units = f.totals.units;
  }

  one_over : (i j l k : Bool) → a.1 ≡ i → t.1 ≡ j → m.1 ≡ l → b.1 ≡ k → ((i || j) || (l || k)) ≡ true → any_over (totals_in (with_counts c (return_of f.totals))) ≡ true
  unfolding with_counts return_of
  one_over true j l k ei ej el ek g = or_first _ _ (sym za.over ∙ ei)
  one_over false true l k ei ej el ek g = over_second (f.totals.accepted + c.accepted) (f.totals.tracks + c.tracks) (f.totals.samples + c.samples) (f.totals.bytes + c.bytes) (f.totals.refused ++ units_in (scales_in f.totals)) (sym zt.over ∙ ej)
  one_over false false true k ei ej el ek g = over_third (f.totals.accepted + c.accepted) (f.totals.tracks + c.tracks) (f.totals.samples + c.samples) (f.totals.bytes + c.bytes) (f.totals.refused ++ units_in (scales_in f.totals)) (sym zm.over ∙ el)
  one_over false false false k ei ej el ek g = over_fourth (f.totals.accepted + c.accepted) (f.totals.tracks + c.tracks) (f.totals.samples + c.samples) (f.totals.bytes + c.bytes) (f.totals.refused ++ units_in (scales_in f.totals)) (sym zb.over ∙ ek ∙ g)

  counts_met : met_in (scales_in counted) ≡ met_in (scales_in f.totals)
  unfolding scales_in
  counts_met = refl

  same_scales : met_in s.scales ≡ met_in (with_counts c s).scales
  unfolding with_counts
  same_scales = refl

  as_long : length s.scales ≤ length (with_counts c s).scales
  unfolding with_counts
  as_long = omega arith

  counts_made : return_of f.totals ≡ s → over ≡ false → return_of counted ≡ with_counts c s
  unfolding with_counts return_of scales_in
  counts_made e h =
      let n = sym o ∙ h in
      let p = or_left (a.1 || t.1) _ n in
      let v = or_right (a.1 || t.1) _ n in
      rw (← e, za.sum (or_left _ _ p), zt.sum (or_right a.1 _ p), zm.sum (or_left _ _ v), zb.sum (or_right m.1 _ v))

  pub more_counts : (q : ℕ) → q ≡ later_refusal f.refusal over → Follows r (with_counts c s) (record { refusal = q; totals = counted })
  more_counts =
      step r s (with_counts c s) f w counted over as_long (counts_over c s) (λ d. counts_met ∙ w.met d ∙ same_scales)
      (λ e h. rw (← e) (one_over a.1 t.1 m.1 b.1 refl refl refl refl (sym o ∙ h))) counts_made
      (keeps_as r f.totals counted refl refl refl w.keeps)

-- ---- refused files

module _ (f : Filed) (i n : ℕ) (x : ℕ × Bool) (z : Sums (get_or f.totals.refused i 0) n x) (h : i < length f.totals.refused) (r : FilmReturn) (s : Return) (w : Follows r s f) where
  abbrev pub slotted : FilmReturn
  slotted = record {
    accepted = f.totals.accepted;
    refused = set f.totals.refused i x.0;
    tracks = f.totals.tracks;
    samples = f.totals.samples;
    bytes = f.totals.bytes;
    count = f.totals.count;
    scales = f.totals.scales;
    units = f.totals.units;
  }

  slot_met : met_in (scales_in slotted) ≡ met_in (scales_in f.totals)
  unfolding scales_in
  slot_met = refl

  slot_scales : met_in s.scales ≡ met_in (with_more_at i n s).scales
  unfolding with_slots
  slot_scales = refl

  slot_long : length s.scales ≤ length (with_more_at i n s).scales
  unfolding with_slots
  slot_long = omega arith

  slot_over : return_of f.totals ≡ s → x.1 ≡ true → any_over (totals_in (with_more_at i n s)) ≡ true
  unfolding with_slots return_of
  slot_over e o =
      rw (← e)
      (over_rest f.totals.accepted f.totals.tracks f.totals.samples f.totals.bytes (more_at f.totals.refused i n ++ units_in (scales_in f.totals))
      (over_append (more_at f.totals.refused i n) (units_in (scales_in f.totals))
      ∙ or_first _ _ (over_set f.totals.refused i (get_or f.totals.refused i 0 + n) h (leb-true 18446744073709551616 _ (sym z.over ∙ o)))))

  slot_made : return_of f.totals ≡ s → x.1 ≡ false → return_of slotted ≡ with_more_at i n s
  unfolding with_slots return_of scales_in
  slot_made e o = rw (← e, z.sum o)

  pub more-at : (q : ℕ) → q ≡ later_refusal f.refusal x.1 → Follows r (with_more_at i n s) (record { refusal = q; totals = slotted })
  more-at =
      step r s (with_more_at i n s) f w slotted x.1 slot_long (slots_over (more_at s.refused i n) s (over_set_more s.refused i n)) (λ d. slot_met ∙ w.met d ∙ slot_scales)
      slot_over slot_made
      (keeps_as r f.totals slotted refl refl refl w.keeps)

-- ---- as the promises of the public functions have them

pub track_more : (t : TrackTotals) (c : Counts) → c ≡ record { accepted = 0; tracks = 1; samples = t.samples; bytes = t.bytes } → (s : Return)
    → with_counts c (with_met (record { scale = t.scale; total = t.total } ∷ []) s) ≡ with_track t s
unfolding with_track with_counts with_met
track_more t c e s = rw (e, add-zero s.accepted)

pub accepted_more : (c : Counts) → c ≡ record { accepted = 1; tracks = 0; samples = 0; bytes = 0 } → (s : Return) → with_counts c s ≡ with_accepted s
unfolding with_accepted with_counts
accepted_more c e s = rw (e, add-zero s.tracks, add-zero s.samples, add-zero s.bytes)

pub refused_more : (n i : ℕ) → i ≡ slot_of n → (s : Return) → with_more_at i 1 s ≡ with_refused n s
unfolding with_refused with_slots
refused_more n i e s = rw e

set_none : (l : List ℕ) (i x : ℕ) → length l ≤ i → set l i x ≡ l
set_none [] i x h = refl
set_none (y ∷ l) zero x h = absurd (omega arith)
set_none (y ∷ l) (suc i) x h = ap (λ (m : List ℕ). y ∷ m) (set_none l i x (omega arith))

-- a number that is none of the fourteen
pub none_refused : (n i : ℕ) → i ≡ slot_of n → (s : Return) → length s.refused ≤ i → s ≡ with_refused n s
unfolding with_refused
none_refused n i e s h = let z = rw e at h in rw (set_none s.refused (slot_of n) (get_or s.refused (slot_of n) 0 + 1) z)
