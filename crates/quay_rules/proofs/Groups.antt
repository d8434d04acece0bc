-- The fifth rule by the numbers of stss: the flags of the samples from one sync sample up to the next are one group.
-- Assumes nothing.
use Prim.Native.Nat.{ℕ, zero, suc, ◌+◌, ◌-◌, ◌≤◌, ◌<◌}
use mathlib.Core.Path.{◌≡◌, refl, sym, ap, ◌∙◌}
use mathlib.Core.Bool.{Bool, true, false, ◌||◌}
use mathlib.Core.List.{List, [], ◌∷◌, ◌++◌, map, map-append}
use native.Mathlib.Omega.{arith}
use native.Mathlib.Decide.{dec_lt}
use borrow.Author.Tests.{eq-eqb, ne_eqb, ltb-true, leb-true, lt-ltb, le-ltb, le-leb, lt-leb}
use lib.Dec.{ltb, leb}
use lib.ListN.{length, get_or, drop}
use Rattle.lists.specs.Lists.{up_to}
use Rattle.lists.proofs.Booleans.{cond_both}
use Rattle.words.specs.Words.{words_in, strictly_rising, syncs_agree, listed, is_sync}
use Rattle.words.proofs.Syncs.{agree_in, sync_absent, sync_in}
use Rattle.quay_rules.specs.Rules.{sync_flags, until_sync, groups, any_above, lacks_syncs}
use Rattle.quay_rules.specs.Computed.{long_group}

-- ---- flags, from the front

-- what f says of m numbers from k on
abbrev flags : (ℕ → Bool) → ℕ → ℕ → List Bool
flags f k zero = []
flags f k (suc m) = f k ∷ flags f (suc k) m

flags_last : (f : ℕ → Bool) (k m : ℕ) → flags f k (suc m) ≡ flags f k m ++ (f (k + m) ∷ [])
flags_last f k zero = let e : k ≡ k + 0 = omega arith in ap (λ (j : ℕ). f j ∷ []) e
flags_last f k (suc m) =
    let e : suc k + m ≡ k + suc m = omega arith in
    ap (λ (l : List Bool). f k ∷ l) (flags_last f (suc k) m) ∙ ap (λ (j : ℕ). f k ∷ (flags f (suc k) m ++ (f j ∷ []))) e

up_flags : (f : ℕ → Bool) (n : ℕ) → map (λ i. f (suc i)) (up_to n) ≡ flags f 1 n
up_flags f zero = refl
up_flags f (suc n) =
    let e : suc n ≡ 1 + n = omega arith in
    map-append (λ i. f (suc i)) (up_to n) (n ∷ [])
    ∙ ap (λ (l : List Bool). l ++ (f (suc n) ∷ [])) (up_flags f n)
    ∙ ap (λ (j : ℕ). flags f 1 n ++ (f j ∷ [])) e
    ∙ sym (flags_last f 1 n)

-- ---- d samples that are not sync, before some others

module _ (f : ℕ → Bool) where
  skip_until : (d k m : ℕ) → ((j : ℕ) → k ≤ j → j < k + d → f j ≡ false) → until_sync (flags f k (d + m)) ≡ d + until_sync (flags f (k + d) m)
  skip_until zero k m h =
      let e : 0 + m ≡ m = omega arith in
      let g : k ≡ k + 0 = omega arith in
      ap (λ (j : ℕ). until_sync (flags f k j)) e ∙ ap (λ (j : ℕ). until_sync (flags f j m)) g ∙ omega arith
  skip_until (suc d) k m h =
      let e : suc d + m ≡ suc (d + m) = omega arith in
      let g : suc k + d ≡ k + suc d = omega arith in
      let z = h k (omega arith) (omega arith) in
      let i = skip_until d (suc k) m (λ j a b. h j (omega arith) (omega arith)) ∙ ap (λ (j : ℕ). d + until_sync (flags f j m)) g in
      ap (λ (j : ℕ). until_sync (flags f k j)) e ∙ rw z (omega (arith, i))

  skip_groups : (d k m : ℕ) → ((j : ℕ) → k ≤ j → j < k + d → f j ≡ false) → groups (flags f k (d + m)) ≡ groups (flags f (k + d) m)
  skip_groups zero k m h =
      let e : 0 + m ≡ m = omega arith in
      let g : k ≡ k + 0 = omega arith in
      ap (λ (j : ℕ). groups (flags f k j)) e ∙ ap (λ (j : ℕ). groups (flags f j m)) g
  skip_groups (suc d) k m h =
      let e : suc d + m ≡ suc (d + m) = omega arith in
      let g : suc k + d ≡ k + suc d = omega arith in
      let z = h k (omega arith) (omega arith) in
      ap (λ (j : ℕ). groups (flags f k j)) e
      ∙ rw z (skip_groups d (suc k) m (λ j a b. h j (omega arith) (omega arith)) ∙ ap (λ (j : ℕ). groups (flags f j m)) g)

  -- all samples are sync: each is a group of its own
  all_until : (m k : ℕ) → ((j : ℕ) → f j ≡ true) → until_sync (flags f k m) ≡ 0
  all_until zero k h = refl
  all_until (suc m) k h = rw (h k)

  all_groups : (m k : ℕ) → ((j : ℕ) → f j ≡ true) → any_above 250 (groups (flags f k m)) ≡ false
  all_groups zero k h = refl
  all_groups (suc m) k h = rw (h k, all_until m (suc k) h) (all_groups m (suc k) h)

-- ---- numbers that rise

rises : (n last : ℕ) (xs : List ℕ) → strictly_rising n last xs ≡ true → last ≤ n
rises n last [] e = leb-true last n e
rises n last (x ∷ xs) e = let t = cond_both (ltb last x) (strictly_rising n x xs) e in omega (arith, ltb-true last x t.0, rises n x xs t.1)

none_upto : (n last i : ℕ) (xs : List ℕ) → strictly_rising n last xs ≡ true → i ≤ last → listed i xs ≡ false
none_upto n last i [] e h = refl
none_upto n last i (x ∷ xs) e h =
    let t = cond_both (ltb last x) (strictly_rising n x xs) e in
    let l = ltb-true last x t.0 in
    rw (ne_eqb x i (λ q. omega arith)) (none_upto n x i xs t.1 (omega arith))

-- ---- the groups

at_most : (m k : ℕ) → ltb m (suc k) ≡ leb m k
at_most m k = elim (dec_lt k m) [
  | yes l ↦ le-ltb m (suc k) (omega arith) ∙ sym (lt-leb m k l)
  | no l ↦ lt-ltb m (suc k) (omega arith) ∙ sym (le-leb m k (omega arith))
]

or_none : (b : Bool) → (b || false) ≡ b
or_none true = refl
or_none false = refl

-- the group of sample `last` and those after it, where f says of each later sample whether it is listed in xs
group_is : (most n last : ℕ) (xs : List ℕ) (f : ℕ → Bool) → strictly_rising n last xs ≡ true → ((i : ℕ) → last < i → f i ≡ listed i xs)
    → (ltb most (suc (until_sync (flags f (suc last) (n - last)))) || any_above most (groups (flags f (suc last) (n - last)))) ≡ long_group most n last xs
group_is most n last [] f e h =
    let q : n - last ≡ (n - last) + 0 = omega arith in
    let z : (j : ℕ) → suc last ≤ j → j < suc last + (n - last) → f j ≡ false = λ j a b. h j (omega arith) in
    let u : until_sync (flags f (suc last) (n - last)) ≡ n - last =
    ap (λ (k : ℕ). until_sync (flags f (suc last) k)) q ∙ skip_until f (n - last) (suc last) 0 z ∙ omega arith in
    let g : groups (flags f (suc last) (n - last)) ≡ [] = ap (λ (k : ℕ). groups (flags f (suc last) k)) q ∙ skip_groups f (n - last) (suc last) 0 z in
    rw (u, g) (or_none (ltb most (suc (n - last))) ∙ at_most most (n - last))
group_is most n last (x ∷ xs) f e h =
    let t = cond_both (ltb last x) (strictly_rising n x xs) e in
    let l = ltb-true last x t.0 in
    let r = rises n x xs t.1 in
    let d = x - last - 1 in
    let q : n - last ≡ d + suc (n - x) = omega arith in
    let p : suc last + d ≡ x = omega arith in
    let s : suc d ≡ x - last = omega arith in
    let z : (j : ℕ) → suc last ≤ j → j < suc last + d → f j ≡ false =
    λ j a b. h j (omega arith) ∙ rw (ne_eqb x j (λ y. omega arith)) (none_upto n x j xs t.1 (omega arith)) in
    let y : f x ≡ true = h x l ∙ rw (eq-eqb x x refl) in
    let w : (i : ℕ) → x < i → f i ≡ listed i xs = λ i a. h i (omega arith) ∙ rw (ne_eqb x i (λ b. omega arith)) in
    let u : until_sync (flags f (suc last) (n - last)) ≡ d =
    ap (λ (k : ℕ). until_sync (flags f (suc last) k)) q
    ∙ skip_until f d (suc last) (suc (n - x)) z
    ∙ ap (λ (k : ℕ). d + until_sync (flags f k (suc (n - x)))) p
    ∙ rw y (omega arith) in
    let g : groups (flags f (suc last) (n - last)) ≡ suc (until_sync (flags f (suc x) (n - x))) ∷ groups (flags f (suc x) (n - x)) =
    ap (λ (k : ℕ). groups (flags f (suc last) k)) q
    ∙ skip_groups f d (suc last) (suc (n - x)) z
    ∙ ap (λ (k : ℕ). groups (flags f k (suc (n - x)))) p
    ∙ rw y in
    rw (u, g, s) (ap (λ (b : Bool). ltb most (x - last) || b) (group_is most n x xs f t.1 w))

-- ---- the ways out of the code

module _ (s : List ℕ) (n : ℕ) where
  flags_are : sync_flags s n ≡ flags (is_sync s) 1 n
  flags_are = up_flags (is_sync s) n

  pub no_samples : n ≡ 0 → lacks_syncs (sync_flags s n) ≡ true
  unfolding lacks_syncs
  no_samples z = rw z

  module _ (h : 0 < n) where
    more : n ≡ suc (n - 1)
    more = omega arith

    first_flag : flags (is_sync s) 1 n ≡ is_sync s 1 ∷ flags (is_sync s) 2 (n - 1)
    first_flag = ap (flags (is_sync s) 1) more

    pub all_sync : length s ≡ 0 → lacks_syncs (sync_flags s n) ≡ false
    unfolding lacks_syncs
    all_sync z =
        let t : (j : ℕ) → is_sync s j ≡ true = λ j. sync_absent s j z in
        ap lacks_syncs (flags_are ∙ first_flag) ∙ rw (t 1, all_until (is_sync s) (n - 1) 2 t) (all_groups (is_sync s) (n - 1) 2 t)

    -- stss is there; xs are its numbers
    module _ (z : length s ≡ 0 → ⊥) (a : syncs_agree s n ≡ true) {part : List ℕ} (p : part ≡ drop 16 s) where
      numbers : (j : ℕ) → is_sync s j ≡ listed j (words_in part)
      numbers j = sync_in s j z ∙ ap (λ (l : List ℕ). listed j (words_in l)) (sym p)

      rising : strictly_rising n 0 (words_in part) ≡ true
      rising = ap (λ (l : List ℕ). strictly_rising n 0 (words_in l)) p ∙ sym (agree_in s n) ∙ a

      not_first : (xs : List ℕ) → strictly_rising n 0 xs ≡ true → (get_or xs 0 0 ≡ 1 → ⊥) → listed 1 xs ≡ false
      not_first [] e g = refl
      not_first (x ∷ xs) e g =
          let t = cond_both (ltb 0 x) (strictly_rising n x xs) e in
          let l = ltb-true 0 x t.0 in
          rw (ne_eqb x 1 g) (none_upto n x 1 xs t.1 (omega arith))

      pub starts_late : {x : ℕ} → x ≡ get_or (words_in part) 0 0 → (x ≡ 1 → ⊥) → lacks_syncs (sync_flags s n) ≡ true
      unfolding lacks_syncs
      starts_late e g = ap lacks_syncs (flags_are ∙ first_flag) ∙ rw (numbers 1, not_first (words_in part) rising (λ q. g (e ∙ q)))

      from_first : (xs : List ℕ) → strictly_rising n 0 xs ≡ true → get_or xs 0 0 ≡ 1 → ((j : ℕ) → is_sync s j ≡ listed j xs)
          → lacks_syncs (flags (is_sync s) 1 n) ≡ long_group 250 n 1 xs
      unfolding lacks_syncs
      from_first [] e g w = absurd (omega arith)
      from_first (x ∷ xs) e g w =
          let t = cond_both (ltb 0 x) (strictly_rising n x xs) e in
          let r : strictly_rising n 1 xs ≡ true = ap (λ (k : ℕ). strictly_rising n k xs) (sym g) ∙ t.1 in
          let f : is_sync s 1 ≡ true = w 1 ∙ rw (eq-eqb x 1 g) in
          let v : (i : ℕ) → 1 < i → is_sync s i ≡ listed i xs = λ i a. w i ∙ rw (ne_eqb x i (λ b. omega arith)) in
          let k : x - 1 ≡ 0 = omega arith in
          ap lacks_syncs first_flag ∙ rw (f, k, g) (group_is 250 n 1 xs (is_sync s) r v)

      pub by_numbers : {x : ℕ} → x ≡ get_or (words_in part) 0 0 → x ≡ 1 → lacks_syncs (sync_flags s n) ≡ long_group 250 n 1 (words_in part)
      by_numbers e g = ap lacks_syncs flags_are ∙ from_first (words_in part) rising (sym e ∙ g) numbers
