-- The numbers of stss: one turn of each loop over them, what a right table says of each number, and small tables by computation.
-- Assumes nothing.
use Prim.Native.Nat.{ℕ, zero, suc, ◌≤◌, ◌<◌}
use mathlib.Core.Path.{◌≡◌, refl, ap, ◌∙◌}
use mathlib.Core.Bool.{true, false}
use mathlib.Core.List.{List, [], ◌∷◌}
use native.Mathlib.Omega.{arith}
use lib.Dec.{leb, ltb}
use lib.ListN.{length, drop, get_or}
use borrow.Author.Tests.{lt-ltb, le-ltb, le-leb, eq-eqb, ne_eqb, ltb-true, leb-true}
use Rattle.bigendian.specs.BigEndian.{be_at, u32_at}
use Rattle.lists.specs.Entries.{rows_of, entries}
use Rattle.lists.proofs.Booleans.{cond_both}
use Rattle.words.specs.Words.{words_in, words_after, strictly_rising, syncs, syncs_agree, listed, is_sync}
use Rattle.words.proofs.Turns.{syncs_in, words_none, words_next}

pub agree_in : (s : List ℕ) (n : ℕ) → syncs_agree s n ≡ strictly_rising n 0 (words_in (drop 16 s))
unfolding syncs_agree
agree_in s n = ap (strictly_rising n 0) (syncs_in s)

pub sync_absent : (s : List ℕ) (n : ℕ) → length s ≡ 0 → is_sync s n ≡ true
unfolding is_sync
sync_absent s n h = rw (eq-eqb (length s) 0 h)

pub sync_in : (s : List ℕ) (n : ℕ) → (length s ≡ 0 → ⊥) → is_sync s n ≡ listed n (words_in (drop 16 s))
unfolding is_sync
sync_in s n h = rw (ne_eqb (length s) 0 h) (ap (listed n) (syncs_in s))

-- the first number x of a part
module _ (t : List ℕ) (x : ℕ) (e : x ≡ u32_at t 0) (h : 4 ≤ length t) where
  opened : words_in t ≡ x ∷ words_in (drop 4 t)
  opened = rw e (words_next t h)

  pub rising_falls : (n last : ℕ) → x ≤ last → strictly_rising n last (words_in t) ≡ false
  rising_falls n last l = ap (strictly_rising n last) opened ∙ rw (le-ltb last x l)

  pub rising_on : (n last : ℕ) → last < x → strictly_rising n last (words_in t) ≡ strictly_rising n x (words_in (drop 4 t))
  rising_on n last l = ap (strictly_rising n last) opened ∙ rw (lt-ltb last x l)

  pub listed_here : (y : ℕ) → x ≡ y → listed y (words_in t) ≡ true
  listed_here y l = ap (listed y) opened ∙ rw (eq-eqb x y l)

  pub listed_on : (y : ℕ) → (x ≡ y → ⊥) → listed y (words_in t) ≡ listed y (words_in (drop 4 t))
  listed_on y l = ap (listed y) opened ∙ rw (ne_eqb x y l)

pub rising_end : (n last : ℕ) (t : List ℕ) → length t < 4 → strictly_rising n last (words_in t) ≡ leb last n
rising_end n last t h = ap (strictly_rising n last) (words_none t h)

pub listed_end : (y : ℕ) (t : List ℕ) → length t < 4 → listed y (words_in t) ≡ false
listed_end y t h = ap (listed y) (words_none t h)

-- ---- the sentence

rises : (n last : ℕ) (xs : List ℕ) → strictly_rising n last xs ≡ true → last ≤ n
rises n last [] e = leb-true last n e
rises n last (x ∷ xs) e = let t = cond_both (ltb last x) (strictly_rising n x xs) e in omega (arith, ltb-true last x t.0, rises n x xs t.1)

-- each number is above `last` and at most n
pub within : (n last : ℕ) (xs : List ℕ) → strictly_rising n last xs ≡ true → (k : ℕ) → k < length xs → (last < get_or xs k 0) × (get_or xs k 0 ≤ n)
within n last [] e k h = absurd (omega arith)
within n last (x ∷ xs) e zero h = let t = cond_both (ltb last x) (strictly_rising n x xs) e in (ltb-true last x t.0, rises n x xs t.1)
within n last (x ∷ xs) e (suc k) h =
    let t = cond_both (ltb last x) (strictly_rising n x xs) e in
    let u = within n x xs t.1 k (omega arith) in
    (omega (arith, ltb-true last x t.0, u.0), u.1)

-- and above each one before it
pub strictly : (n last : ℕ) (xs : List ℕ) → strictly_rising n last xs ≡ true → (j k : ℕ) → j < k → k < length xs → get_or xs j 0 < get_or xs k 0
strictly n last [] e j k l h = absurd (omega arith)
strictly n last (x ∷ xs) e j zero l h = absurd (omega arith)
strictly n last (x ∷ xs) e zero (suc k) l h = (within n x xs (cond_both (ltb last x) (strictly_rising n x xs) e).1 k (omega arith)).0
strictly n last (x ∷ xs) e (suc j) (suc k) l h = strictly n x xs (cond_both (ltb last x) (strictly_rising n x xs) e).1 j k (omega arith) (omega arith)

-- numbers of which that is so are rising
pub rises_if : (n last : ℕ) (xs : List ℕ) → last ≤ n → ((k : ℕ) → k < length xs → (last < get_or xs k 0) × (get_or xs k 0 ≤ n)) →
    ((j k : ℕ) → j < k → k < length xs → get_or xs j 0 < get_or xs k 0) → strictly_rising n last xs ≡ true
rises_if n last [] l w s = le-leb last n l
rises_if n last (x ∷ xs) l w s =
    let h : last < x = (w 0 (omega arith)).0 in
    let m : x ≤ n = (w 0 (omega arith)).1 in
    rw (lt-ltb last x h) (rises_if n x xs m (λ k q. (s 0 (suc k) (omega arith) (omega arith), (w (suc k) (omega arith)).1)) (λ j k p q. s (suc j) (suc k) (omega arith) (omega arith)))

-- ---- small tables, by computation: samples 1 and 3 of 3, two equal numbers, no entry, no table

abbrev entry : ℕ → List ℕ → List ℕ
entry n rest = 0 ∷ 0 ∷ 0 ∷ n ∷ rest

abbrev table : List ℕ → List ℕ
table rest = entry 0 (entry 0 (entry 0 (entry 0 rest)))

agreement : (syncs_agree (table (entry 1 (entry 3 []))) 3 ≡ true) × (syncs_agree (table (entry 1 (entry 3 []))) 2 ≡ false) × (syncs_agree (table (entry 1 (entry 1 []))) 3 ≡ false) × (syncs_agree (table []) 0 ≡ true) × (syncs_agree [] 0 ≡ true)
unfolding syncs_agree syncs words_after entries rows_of be_at
agreement = (refl, refl, refl, refl, refl)

sync : (is_sync (table (entry 1 (entry 3 []))) 3 ≡ true) × (is_sync (table (entry 1 (entry 3 []))) 2 ≡ false) × (is_sync (table []) 1 ≡ false) × (is_sync [] 1 ≡ true)
unfolding is_sync syncs words_after entries rows_of be_at
sync = (refl, refl, refl, refl)
