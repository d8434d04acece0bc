-- The place in stss: what the search keeps, and what a step past a sample keeps.
-- Assumes nothing.
use Prim.Native.Nat.{ℕ, suc, ◌+◌, ◌*◌, ◌≤◌, ◌<◌}
use mathlib.Core.Path.{◌≡◌, refl, sym, ap, ◌∙◌}
use mathlib.Core.Bool.{Bool, true, false, cond}
use mathlib.Core.List.{List, [], ◌∷◌}
use native.Mathlib.Omega.{arith}
use native.Mathlib.Decide.{ℕ_discrete, dec_lt}
use borrow.Author.Tests.{eq-eqb, ne_eqb, lt-ltb, le-ltb, le-leb, ltb-true, leb-true}
use lib.Dec.{ltb, eqb}
use lib.ListN.{length, drop}
use lib.Seq.{drop-drop}
use Rattle.bigendian.specs.BigEndian.{u32_at}
use Rattle.lists.proofs.Booleans.{cond_both}
use Rattle.words.specs.Words.{words_in, syncs, strictly_rising, syncs_agree, listed, is_sync}
use Rattle.words.proofs.Turns.{syncs_in, words_none, words_next, words_drop}
use Rattle.words.proofs.Syncs.{agree_in}
use Rattle.positions.specs.Syncs.{SyncAt, not_above, sync_place, sync_step_in, sync_step}
use Rattle.positions.specs.declared.sync.SyncStep.{SyncStep}

-- ---- the search

pub place_start : (s : List ℕ) (k : ℕ) → 16 + not_above k (words_in (drop 16 s)) * 4 ≡ sync_place s k
unfolding sync_place
place_start s k = ap (λ (l : List ℕ). 16 + not_above k l * 4) (sym (syncs_in s))

module _ (s : List ℕ) (k at : ℕ) {t : List ℕ} (p : t ≡ drop at s) where
  pub place_end : length t < 4 → not_above k (words_in (drop at s)) ≡ 0
  place_end h = ap (λ (l : List ℕ). not_above k (words_in l)) (sym p) ∙ ap (not_above k) (words_none t h)

  module _ (h : 4 ≤ length t) {x : ℕ} (e : x ≡ u32_at t 0) where
    split : words_in (drop at s) ≡ x ∷ words_in (drop (at + 4) s)
    split = ap words_in (sym p) ∙ words_next t h ∙ (λ i. sym e i ∷ words_in ((ap (drop 4) p ∙ drop-drop 4 at s) i))

    pub place_here : k < x → not_above k (words_in (drop at s)) ≡ 0
    place_here l = ap (not_above k) split ∙ rw (lt-ltb k x l)

    pub place_next : x ≤ k → not_above k (words_in (drop at s)) ≡ suc (not_above k (words_in (drop (at + 4) s)))
    place_next l = ap (not_above k) split ∙ rw (le-ltb k x l)

    -- ---- the number at a place
    pub step_here : (number : ℕ) → x ≡ number → sync_step s at number ≡ record { listed = true; at = at + 4 }
    unfolding sync_step
    step_here number q = ap (λ (l : List ℕ). sync_step_in l at number) split ∙ rw (eq-eqb x number q)

    pub step_other : (number : ℕ) → (x ≡ number → ⊥) → sync_step s at number ≡ record { listed = false; at = at }
    unfolding sync_step
    step_other number q = ap (λ (l : List ℕ). sync_step_in l at number) split ∙ rw (ne_eqb x number q)

  pub step_none : length t < 4 → (number : ℕ) → sync_step s at number ≡ record { listed = false; at = at }
  unfolding sync_step
  step_none h number = ap (λ (l : List ℕ). sync_step_in (words_in l) at number) (sym p) ∙ ap (λ (l : List ℕ). sync_step_in l at number) (words_none t h)

-- ---- what the place has ahead

rises : (n last : ℕ) (xs : List ℕ) → strictly_rising n last xs ≡ true → last ≤ n
rises n last [] e = leb-true last n e
rises n last (x ∷ xs) e = let t = cond_both (ltb last x) (strictly_rising n x xs) e in omega (arith, ltb-true last x t.0, rises n x xs t.1)

-- numbers that rise from above k list none up to k
none_below : (n k : ℕ) (xs : List ℕ) → strictly_rising n k xs ≡ true → (j : ℕ) → j ≤ k → listed j xs ≡ false
none_below n k [] e j h = refl
none_below n k (x ∷ xs) e j h =
    let t = cond_both (ltb k x) (strictly_rising n x xs) e in
    let l = ltb-true k x t.0 in
    rw (ne_eqb x j (λ q. omega arith)) (none_below n x xs t.1 j (omega arith))

-- they rise from above any number up to the first
rises_from : (n k j x : ℕ) (xs : List ℕ) → strictly_rising n k (x ∷ xs) ≡ true → j < x → strictly_rising n j (x ∷ xs) ≡ true
rises_from n k j x xs e h = rw (lt-ltb j x h) (cond_both (ltb k x) (strictly_rising n x xs) e).1

drop_above : (n last k : ℕ) (xs : List ℕ) → strictly_rising n last xs ≡ true → last ≤ k → k ≤ n
    → (strictly_rising n k (drop (not_above k xs) xs) ≡ true) × ((j : ℕ) → k < j → listed j (drop (not_above k xs) xs) ≡ listed j xs)
drop_above n last k [] e h l = (le-leb k n l, λ j q. refl)
drop_above n last k (x ∷ xs) e h l = elim (dec_lt k x) [
  | yes q ↦ rw (lt-ltb k x q) (rises_from n last k x xs e q, λ j z. refl)
  | no q ↦
      let t = cond_both (ltb last x) (strictly_rising n x xs) e in
      let g : x ≤ k = omega arith in
      let w = drop_above n x k xs t.1 g l in
      rw (le-ltb k x g) (w.0, λ j z. w.1 j z ∙ sym (ap (λ (b : Bool). cond b true (listed j xs)) (ne_eqb x j (λ y. omega arith))))
]

pub sync_sought : (s : List ℕ) (n k : ℕ) → syncs_agree s n ≡ true → k ≤ n → SyncAt s n k (sync_place s k)
unfolding sync_place
sync_sought s n k e h =
    let xs = syncs s in
    let w = drop_above n 0 k xs (ap (strictly_rising n 0) (syncs_in s) ∙ sym (agree_in s n) ∙ e) (omega arith) h in
    let m : words_in (drop (16 + not_above k xs * 4) s) ≡ drop (not_above k xs) xs =
    ap words_in (sym (drop-drop (not_above k xs * 4) 16 s)) ∙ words_drop (not_above k xs) (drop 16 s) ∙ ap (drop (not_above k xs)) (sym (syncs_in s)) in
    record { rising = ap (strictly_rising n k) m ∙ w.0; same = λ j q. ap (listed j) m ∙ w.1 j q }

-- ---- past a sample

-- the numbers ahead after a step
after_first : (s : List ℕ) (at x : ℕ) (xs : List ℕ) → words_in (drop at s) ≡ x ∷ xs → words_in (drop (at + 4) s) ≡ xs
after_first s at x xs q = elim (dec_lt (length (drop at s)) 4) [
  | yes l ↦ let n : words_in (drop at s) ≡ [] = words_none (drop at s) l in let z : ◌≡◌ {A = ℕ} 0 1 = cc in absurd (omega arith)
  | no l ↦
      let n = words_next (drop at s) (omega arith) in
      let t : words_in (drop 4 (drop at s)) ≡ xs = cc in
      ap words_in (sym (drop-drop 4 at s)) ∙ t
]

module _ (s : List ℕ) (n k at : ℕ) (a : SyncAt s n k at) (h : k < n) where
  moved : (xs : List ℕ) → words_in (drop at s) ≡ xs → (r : SyncStep) → r ≡ sync_step_in xs at (suc k)
      → (r.listed ≡ listed (suc k) (syncs s)) × SyncAt s n (suc k) r.at
  moved [] q r e =
      rw e (
        sym (sym (a.same (suc k) (omega arith)) ∙ ap (listed (suc k)) q),
        record { rising = ap (strictly_rising n (suc k)) q ∙ le-leb (suc k) n (omega arith); same = λ j z. a.same j (omega arith) },
      )
  moved (x ∷ xs) q r e =
      let rise : strictly_rising n k (x ∷ xs) ≡ true = sym (ap (strictly_rising n k) q) ∙ a.rising in
      let t = cond_both (ltb k x) (strictly_rising n x xs) rise in
      let l = ltb-true k x t.0 in
      elim (ℕ_discrete x (suc k)) [
        | yes z ↦
            let f : r ≡ record { listed = true; at = at + 4 } = e ∙ rw (eq-eqb x (suc k) z) in
            let m = after_first s at x xs q in
            rw f (
              sym (sym (a.same (suc k) (omega arith)) ∙ ap (listed (suc k)) q ∙ rw (eq-eqb x (suc k) z)),
              record {
                rising = ap (strictly_rising n (suc k)) m ∙ ap (λ (y : ℕ). strictly_rising n y xs) (sym z) ∙ t.1;
                same = λ j y. ap (listed j) m ∙ sym (ap (listed j) q ∙ rw (ne_eqb x j (λ w. omega arith))) ∙ a.same j (omega arith);
              },
            )
        | no z ↦
            let f : r ≡ record { listed = false; at = at } = e ∙ rw (ne_eqb x (suc k) z) in
            let up = rises_from n k (suc k) x xs rise (omega arith) in
            rw f (
              sym (sym (a.same (suc k) (omega arith)) ∙ ap (listed (suc k)) q ∙ none_below n (suc k) (x ∷ xs) up (suc k) (omega arith)),
              record { rising = ap (strictly_rising n (suc k)) q ∙ up; same = λ j y. a.same j (omega arith) },
            )
      ]

  pub sync_moves : (r : SyncStep) → r ≡ sync_step s at (suc k) → (r.listed ≡ listed (suc k) (syncs s)) × SyncAt s n (suc k) r.at
  unfolding sync_step
  sync_moves r e = moved (words_in (drop at s)) refl r e

-- whether the sample is sync: its number is listed, or there is no stss
pub sync_is : (s : List ℕ) (k : ℕ) (b : Bool) → b ≡ listed k (syncs s) → cond (eqb (length s) 0) true b ≡ is_sync s k
unfolding is_sync
sync_is s k b e = rw e
