-- What a film adds to each number of a return, without a limit.
-- Assumes nothing.
use Prim.Native.Nat.{ℕ, ◌+◌, ◌-◌, ◌<◌}
use mathlib.Core.Path.{◌≡◌, refl, sym, ap, ◌∙◌}
use mathlib.Core.Bool.{Bool, true, cond, ◌||◌}
use mathlib.Core.List.{List, [], ◌∷◌, map}
use native.Mathlib.Omega.{arith}
use native.Mathlib.Decide.{ℕ_discrete}
use lib.ListN.{length, get_or, length-set}
use lib.Seq.{get_or-set_same, get_or-set_other}
use lib.Dec.{eqb, ltb}
use borrow.Author.Tests.{eq-eqb, ne_eqb, ltb-true, le-ltb}
use Rattle.lists.specs.Lists.{sum}
use Rattle.lists.proofs.Booleans.{and_left, and_right}
use Rattle.structure.specs.Movie.{moov_of, tracks_of}
use Rattle.shape.specs.Refusals.{file_rows}
use Rattle.movie.specs.Refusals.{moov_rows}
use Rattle.return_totals.specs.Returns.{Return, with_track, with_tracks, with_accepted, with_refused, one_more, slot_of, any_over, totals_in}
use Rattle.return_totals.specs.declared.TrackTotals.{TrackTotals}
use Rattle.return_totals.proofs.Overs.{track_over, accepted_over, refused_over}
use Rattle.film_return.specs.Films.{totals_of, with_film}
use Rattle.movie.proofs.Numbered.{film_passes}
use Rattle.film_return.proofs.Numbered.{film_slot}
use Rattle.film_return_theorems.specs.Filing.{Film, refusal_of, accepted_in, refused_in, tracks_in, samples_in, bytes_in, is_number}
use Rattle.film_return_theorems.proofs.Scales.{with_all}

-- ---- tracks

pub record Adds (ts : List TrackTotals) (r s : Return) : Type 0 where
  pub accepted : s.accepted ≡ r.accepted
  pub refused : s.refused ≡ r.refused
  pub tracks : s.tracks ≡ r.tracks + length ts
  pub samples : s.samples ≡ r.samples + sum (map (λ t. t.samples) ts)
  pub bytes : s.bytes ≡ r.bytes + sum (map (λ t. t.bytes) ts)
  pub scales : s.scales ≡ with_all ts r.scales

adds : (ts : List TrackTotals) (r : Return) → Adds ts r (with_tracks ts r)
unfolding with_track
adds [] r = record { accepted = refl; refused = refl; tracks = omega arith; samples = omega arith; bytes = omega arith; scales = refl }
adds (t ∷ ts) r =
    let a = adds ts (with_track t r) in
    record { accepted = a.accepted; refused = a.refused; tracks = omega (arith, a.tracks); samples = omega (arith, a.samples); bytes = omega (arith, a.bytes); scales = a.scales }

tracks_over : (ts : List TrackTotals) (r : Return) → any_over (totals_in r) ≡ true → any_over (totals_in (with_tracks ts r)) ≡ true
tracks_over [] r e = e
tracks_over (t ∷ ts) r e = tracks_over ts (with_track t r) (track_over t r e)

-- ---- a film

abbrev pub with_it : Film → Return → Return
with_it f r = with_film f.bytes f.source r

-- one, at the place of the number of a refused film
unfoldable pub slot_in : ℕ → Film → ℕ
slot_in i f = cond (eqb (refusal_of f) 0) 0 (cond (eqb (slot_of (refusal_of f)) i) 1 0)

one-more : (l : List ℕ) (j i : ℕ) → j < length l → get_or (one_more l j) i 0 ≡ get_or l i 0 + cond (eqb j i) 1 0
one-more l j i h = elim (ℕ_discrete j i) [
  | yes e ↦ rw (← e, eq-eqb j j refl) (get_or-set_same l j (get_or l j 0 + 1) 0 h)
  | no n ↦ rw (ne_eqb j i n) (get_or-set_other l j i (get_or l j 0 + 1) 0 (λ e. n (sym e)) ∙ omega arith)
]

pub record FilmAdds (f : Film) (r s : Return) : Type 0 where
  pub accepted : s.accepted ≡ r.accepted + accepted_in f
  pub long : length s.refused ≡ length r.refused
  pub slot : (i : ℕ) → length r.refused ≡ 14 → get_or s.refused i 0 ≡ get_or r.refused i 0 + slot_in i f
  pub tracks : s.tracks ≡ r.tracks + length (tracks_in f)
  pub samples : s.samples ≡ r.samples + samples_in f
  pub bytes : s.bytes ≡ r.bytes + bytes_in f
  pub scales : s.scales ≡ with_all (tracks_in f) r.scales
  pub over : any_over (totals_in r) ≡ true → any_over (totals_in s) ≡ true

module _ (f : Film) (r : Return) where
  accepted_adds : refusal_of f ≡ 0 → FilmAdds f r (with_it f r)
  unfolding with_film with_accepted accepted_in tracks_in slot_in
  accepted_adds z =
      let ts = map totals_of (tracks_of (moov_of f.bytes)) in
      let a = adds ts (with_accepted r) in
      let q = eq-eqb (refusal_of f) 0 z in
      record {
        accepted = rw q a.accepted;
        long = rw q (ap length a.refused);
        slot = λ i l. rw q (ap (λ (x : List ℕ). get_or x i 0) a.refused ∙ omega arith);
        tracks = rw q a.tracks;
        samples = rw q a.samples;
        bytes = rw q a.bytes;
        scales = rw q a.scales;
        over = λ o. rw q (tracks_over ts (with_accepted r) (accepted_over r o));
      }

  refused_adds : (refusal_of f ≡ 0 → ⊥) → FilmAdds f r (with_it f r)
  unfolding with_film with_refused accepted_in tracks_in slot_in
  refused_adds n =
      let q = ne_eqb (refusal_of f) 0 n in
      record {
        accepted = rw q (omega arith);
        long = rw q (length-set r.refused (slot_of (refusal_of f)) (get_or r.refused (slot_of (refusal_of f)) 0 + 1));
        slot = λ i l. rw q (one-more r.refused (slot_of (refusal_of f)) i (omega (arith, film_slot f.bytes f.source n)));
        tracks = rw q (omega arith);
        samples = rw q (omega arith);
        bytes = rw q (omega arith);
        scales = rw q;
        over = λ o. rw q (refused_over (refusal_of f) r o);
      }

  pub film_adds : FilmAdds f r (with_it f r)
  film_adds = elim (ℕ_discrete (refusal_of f) 0) [
    | yes z ↦ accepted_adds z
    | no n ↦ refused_adds n
  ]

-- ---- the place of a number, and the number

number_low : (n : ℕ) → (n ≡ 19 → ⊥) → is_number n ≡ true → (0 < n) × (n < 14)
number_low n d e =
    let g = rw (ne_eqb n 19 d) at e in
    (ltb-true 0 n (and_left _ _ g), ltb-true n 14 (and_right (ltb 0 n) _ g))

slot_last : (n : ℕ) → n ≡ 19 → slot_of n ≡ 13
unfolding slot_of
slot_last n e = rw (eq-eqb n 19 e)

slot_low : (n : ℕ) → (n ≡ 19 → ⊥) → is_number n ≡ true → (slot_of n ≡ n - 1) × (0 < n) × (n < 14)
unfolding slot_of
slot_low n d e =
    let h = number_low n d e in
    (rw (ne_eqb n 19 d, ne_eqb n 0 (λ z. omega (arith, h.0)), le-ltb 13 n (omega (arith, h.1))), h.0, h.1)

slots_apart : (m n : ℕ) → is_number m ≡ true → is_number n ≡ true → slot_of m ≡ slot_of n → m ≡ n
slots_apart m n a b e = elim (ℕ_discrete m 19) [
  | yes p ↦ elim (ℕ_discrete n 19) [
    | yes q ↦ p ∙ sym q
    | no q ↦ let h = slot_low n q b in absurd (omega (arith, slot_last m p, h.0, h.1, h.2, e))
  ]
  | no p ↦ elim (ℕ_discrete n 19) [
    | yes q ↦ let h = slot_low m p a in absurd (omega (arith, slot_last n q, h.0, h.1, h.2, e))
    | no q ↦ let h = slot_low m p a in let k = slot_low n q b in omega (arith, h.0, h.1, k.0, k.1, e)
  ]
]

abbrev numbered : ℕ → Bool
numbered n = eqb n 0 || is_number n

film_numbered : (f : Film) → numbered (refusal_of f) ≡ true
unfolding file_rows moov_rows
film_numbered f = film_passes numbered refl f.bytes f.source refl refl

zero_none : is_number 0 ≡ true → ⊥
zero_none e = let z : ◌≡◌ {A = ℕ} 0 1 = cc in omega arith

pub slot_number : (n : ℕ) → is_number n ≡ true → (f : Film) → slot_in (slot_of n) f ≡ refused_in n f
unfolding slot_in refused_in
slot_number n b f = elim (ℕ_discrete (refusal_of f) 0) [
  | yes z ↦ rw (eq-eqb (refusal_of f) 0 z, ne_eqb (refusal_of f) n (λ e. zero_none (rw (sym e ∙ z) at b)))
  | no z ↦
      let a : is_number (refusal_of f) ≡ true = rw (ne_eqb (refusal_of f) 0 z) at (film_numbered f) in
      elim (ℕ_discrete (refusal_of f) n) [
        | yes e ↦ rw (ne_eqb (refusal_of f) 0 z, eq-eqb (refusal_of f) n e, eq-eqb (slot_of (refusal_of f)) (slot_of n) (ap slot_of e))
        | no d ↦ rw (ne_eqb (refusal_of f) 0 z, ne_eqb (refusal_of f) n d, ne_eqb (slot_of (refusal_of f)) (slot_of n) (λ e. d (slots_apart (refusal_of f) n a b e)))
      ]
]
