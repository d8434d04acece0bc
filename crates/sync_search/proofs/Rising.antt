-- In numbers that rise, one is listed exactly if it is the last of those not above it.
-- Assumes nothing.
use Prim.Native.Nat.{ℕ, zero, suc, ◌+◌, ◌*◌, ◌/◌, ◌≤◌, ◌<◌}
use mathlib.Core.Path.{◌≡◌, refl, sym, ap, ◌∙◌}
use mathlib.Core.Bool.{Bool, true, false, cond}
use mathlib.Core.List.{List, [], ◌∷◌}
use native.Mathlib.Omega.{arith}
use native.Mathlib.Decide.{dec_le}
use borrow.Author.Tests.{eq-eqb, ne_eqb, ltb-true, lt-ltb, le-ltb, leb-true, leb-false}
use lib.Dec.{eqb, ltb, leb}
use lib.ListN.{length, get_or, drop}
use Rattle.bigendian.specs.BigEndian.{u32_at}
use Rattle.lists.proofs.Booleans.{cond_both}
use Rattle.lists.proofs.Halving.{last-passing}
use Rattle.words.specs.Words.{words_in, strictly_rising, syncs_agree, listed, is_sync}
use Rattle.words.proofs.Turns.{words_none, words_at, length_words}
use Rattle.words.proofs.Syncs.{agree_in, sync_absent, sync_in}
use Rattle.sync_search.specs.Search.{last_upto, searched_in, searched_sync, Searched}

-- numbers that rise from above x do not list it
none_above : (n last x : ℕ) (xs : List ℕ) → strictly_rising n last xs ≡ true → x ≤ last → listed x xs ≡ false
none_above n last x [] e h = refl
none_above n last x (y ∷ ys) e h =
    let t = cond_both (ltb last y) (strictly_rising n y ys) e in
    let l = ltb-true last y t.0 in
    rw (ne_eqb y x (λ q. omega arith)) (none_above n y x ys t.1 (omega arith))

-- those from the second on, where the first is not above x and the second is, or there is none
next_above : (n y x : ℕ) (ys : List ℕ) → strictly_rising n y ys ≡ true → (0 < length ys → x < get_or ys 0 0) → listed x ys ≡ false
next_above n y x [] e h = refl
next_above n y x (z ∷ zs) e h =
    let t = cond_both (ltb y z) (strictly_rising n z zs) e in
    let l = h (omega arith) in
    rw (ne_eqb z x (λ q. omega arith)) (none_above n z x zs t.1 (omega arith))

-- every number of a list that rises is above the one that it rises from
rises_above : (n last : ℕ) (xs : List ℕ) (i : ℕ) → strictly_rising n last xs ≡ true → i < length xs → last < get_or xs i 0
rises_above n last [] i e h = absurd (omega arith)
rises_above n last (y ∷ ys) zero e h = ltb-true last y (cond_both (ltb last y) (strictly_rising n y ys) e).0
rises_above n last (y ∷ ys) (suc i) e h =
    let t = cond_both (ltb last y) (strictly_rising n y ys) e in
    omega (arith, ltb-true last y t.0, rises_above n y ys i t.1 (omega arith))

-- i is the last that is not above x, or the first
listed_at : (n last x : ℕ) (xs : List ℕ) (i : ℕ) → strictly_rising n last xs ≡ true → i < length xs → (0 < i → get_or xs i 0 ≤ x)
    → (i + 1 < length xs → x < get_or xs (i + 1) 0) → listed x xs ≡ eqb (get_or xs i 0) x
listed_at n last x [] i e h f g = absurd (omega arith)
listed_at n last x (y ∷ ys) zero e h f g =
    let t = cond_both (ltb last y) (strictly_rising n y ys) e in
    only (eqb y x) (listed x ys) (next_above n y x ys t.1 (λ l. g (omega arith)))
  where
    only : (a b : Bool) → b ≡ false → cond a true b ≡ a
    only true b q = refl
    only false b q = q
listed_at n last x (y ∷ ys) (suc i) e h f g =
    let t = cond_both (ltb last y) (strictly_rising n y ys) e in
    let l = rises_above n y ys i t.1 (omega arith) in
    let m = f (omega arith) in
    let e2 : suc i + 1 ≡ suc (i + 1) = omega arith in
    rw (ne_eqb y x (λ q. omega arith)) (listed_at n y x ys i t.1 (omega arith) (λ z. m) (λ z. rw e2 at (g (omega arith))))

-- ---- the search

-- the place that was found is one of them, where there is a number
pub found_in : (part : List ℕ) (x : ℕ) → 4 ≤ length part → last_upto part x < length part / 4
found_in part x h = below (last_upto part x) (last-passing (λ i. leb (u32_at part (i * 4)) x) (length part / 4)).within
  where
    below : (i : ℕ) → (0 < i → i < length part / 4) → i < length part / 4
    below zero a = omega arith
    below (suc i) a = a (omega arith)

-- in a part whose numbers rise
module _ (n x : ℕ) (part : List ℕ) (rise : strictly_rising n 0 (words_in part) ≡ true) where
  abbrev i : ℕ
  i = last_upto part x

  in_some : 4 ≤ length part → eqb (u32_at part (i * 4)) x ≡ listed x (words_in part)
  in_some l =
      let k = length_words part in
      let in-it = found_in part x l in
      let w = words_at part i in-it in
      let o = last-passing (λ j. leb (u32_at part (j * 4)) x) (length part / 4) in
      let f : 0 < i → get_or (words_in part) i 0 ≤ x = λ z. omega (arith, w, leb-true (u32_at part (i * 4)) x (o.passes z)) in
      let g : i + 1 < length (words_in part) → x < get_or (words_in part) (i + 1) 0 =
      λ z. omega (arith, words_at part (i + 1) (omega (arith, k)), leb-false (u32_at part ((i + 1) * 4)) x (o.fails (omega (arith, k)))) in
      sym (listed_at n 0 x (words_in part) i rise (omega (arith, k, in-it)) f g ∙ ap (λ (y : ℕ). eqb y x) w)

  pub searched-in : searched_in part x ≡ listed x (words_in part)
  searched-in = elim (dec_le 4 (length part)) [
    | yes h ↦ rw (le-ltb (length part) 4 h) (in_some h)
    | no h ↦ rw (lt-ltb (length part) 4 (omega arith)) (ap (listed x) (sym (words_none part (omega arith))))
  ]

pub searched_right : (s : List ℕ) (number n : ℕ) → syncs_agree s n ≡ true → searched_sync s number ≡ is_sync s number
unfolding searched_sync
searched_right s number n e = elim (dec_le (length s) 0) [
  | yes h ↦ let z : length s ≡ 0 = omega arith in rw (eq-eqb (length s) 0 z) (sym (sync_absent s number z))
  | no h ↦
      let z : length s ≡ 0 → ⊥ = λ q. omega arith in
      rw (ne_eqb (length s) 0 z) (searched-in n number (drop 16 s) (sym (agree_in s n) ∙ e) ∙ sym (sync_in s number z))
]

pub searched : (s : List ℕ) (number : ℕ) (r : Bool) → r ≡ searched_sync s number → Searched s number r
searched s number r e = record { answer = e; right = λ n a. e ∙ searched_right s number n a }
