-- Sizes added from one index up to another, listed or common: the listed ones are the numbers of a part cut out of the table, the common ones a product.
-- Assumes nothing.
use Prim.Native.Nat.{ℕ, zero, suc, ◌*◌, ◌-◌, ◌^◌, ◌≤◌, ◌<◌, min}
use mathlib.Core.Path.{◌≡◌, refl, sym, ap, ◌∙◌}
use mathlib.Core.List.{List, ◌∷◌}
use native.Mathlib.Nat.{mul-le-mul, mul-le-mul_left, le-pred_of_lt}
use native.Mathlib.Omega.{arith}
use native.Mathlib.Decide.{ℕ_discrete}
use lib.ListN.{length, take, drop, get_or, replicate, length-take, length-drop, length-replicate, get_or-replicate, get_or-eq_default}
use Rattle.bigendian.specs.BigEndian.{u32_at}
use Rattle.bigendian.proofs.Laws.{be_at_below}
use Rattle.lists.specs.Lists.{sum, between}
use Rattle.lists.proofs.Laws.{sum_replicate}
use Rattle.words.specs.Words.{words_in, sizes}
use Rattle.words.proofs.Turns.{sizes_listed, sizes_common, length_words, words_drop, words_take}

-- ---- listed

-- the part f that holds the first count numbers of t
module _ (t : List ℕ) (count : ℕ) {f : List ℕ} (e : f ≡ take (count * 4) t) where
  pub first_few : length f ≤ count * 4
  first_few = omega (arith, ap length e, length-take (count * 4) t)

  pub first_words : sum (words_in f) ≡ sum (take count (words_in t))
  first_words = rw e (ap sum (words_take count t))

-- the part t that follows the first `from` numbers
pub listed_sum : (part : List ℕ) (from to : ℕ) {t : List ℕ} {count : ℕ} → t ≡ drop (from * 4) part → count ≡ to - from
    → sum (take count (words_in t)) ≡ between (words_in part) from to
listed_sum part from to p q = rw (q, p) (ap (λ l. sum (take (to - from) l)) (words_drop from part))

-- ---- common

drop_replicate : (n v i : ℕ) → drop i (replicate n v) ≡ replicate (n - i) v
drop_replicate n v zero = let e : n ≡ n - 0 = omega arith in ap (λ (k : ℕ). replicate k v) e
drop_replicate zero v (suc i) = let e : 0 ≡ 0 - suc i = omega arith in ap (λ (k : ℕ). replicate k v) e
drop_replicate (suc n) v (suc i) = let e : n - i ≡ suc n - suc i = omega arith in drop_replicate n v i ∙ ap (λ (k : ℕ). replicate k v) e

take_replicate : (n v k : ℕ) → take k (replicate n v) ≡ replicate (min k n) v
take_replicate n v zero = let e : 0 ≡ min 0 n = omega arith in ap (λ (j : ℕ). replicate j v) e
take_replicate zero v (suc k) = let e : 0 ≡ min (suc k) 0 = omega arith in ap (λ (j : ℕ). replicate j v) e
take_replicate (suc n) v (suc k) =
    let e : suc (min k n) ≡ min (suc k) (suc n) = omega arith in
    ap (λ (l : List ℕ). v ∷ l) (take_replicate n v k) ∙ ap (λ (j : ℕ). replicate j v) e

between_replicate : (n v i j : ℕ) → between (replicate n v) i j ≡ (min j n - i) * v
between_replicate n v i j =
    let e : min (j - i) (n - i) ≡ min j n - i = omega arith in
    ap (λ (l : List ℕ). sum (take (j - i) l)) (drop_replicate n v i)
    ∙ ap sum (take_replicate (n - i) v (j - i))
    ∙ sum_replicate (min (j - i) (n - i)) v
    ∙ ap (λ (k : ℕ). k * v) e

-- a common size and the number of samples, as they are read
module _ (s : List ℕ) {common n : ℕ} (e : common ≡ u32_at s 12) (z : common ≡ 0 → ⊥) (q : n ≡ u32_at s 16) where
  all_common : sizes s ≡ replicate n common
  all_common = rw q (sizes_common s e z)

  pub common_at : (i : ℕ) → i < n → get_or (sizes s) i 0 ≡ common
  common_at i h = ap (λ (l : List ℕ). get_or l i 0) all_common ∙ get_or-replicate n i common 0 h

  pub common_past : (i : ℕ) → n ≤ i → get_or (sizes s) i 0 ≡ 0
  common_past i h = ap (λ (l : List ℕ). get_or l i 0) all_common ∙ get_or-eq_default (replicate n common) 0 {n = i} (omega (arith, length-replicate n common))

  common_between : (from to : ℕ) → between (sizes s) from to ≡ (min to n - from) * common
  common_between from to = ap (λ (l : List ℕ). between l from to) all_common ∙ between_replicate n common from to

  pub all_common_sum : common < 2 ^ 32 → (n * common ≡ sum (sizes s)) × (n * common ≤ length (sizes s) * 4294967295)
  all_common_sum h = (
    sym (ap sum all_common ∙ sum_replicate n common),
    omega (arith, ap length all_common, length-replicate n common, mul-le-mul_left n (le-pred_of_lt h)),
  )

  -- the samples up to the end of the table, and their product with the size
  module _ (from to : ℕ) {end count : ℕ} (p : end ≡ min to n) (k : count ≡ end - from) where
    pub common_sum : count * common ≡ between (sizes s) from to
    common_sum = rw (k, p) (sym (common_between from to))

    pub common_few : common < 2 ^ 32 → count * common ≤ (to - from) * 4294967295
    common_few h = mul-le-mul {n₂ = to - from} {m₂ = 4294967295} (omega arith) (le-pred_of_lt h)

-- ---- how many

-- a table of a file has no more samples than the largest index
pub few_sizes : (s : List ℕ) → length s < 2 ^ 32 → ((i : ℕ) → get_or s i 0 < 256) → length (sizes s) ≤ 4294967295
few_sizes s h b = elim (ℕ_discrete (u32_at s 12) 0) [
  | yes z ↦ omega (arith, ap length (sizes_listed s refl z), length_words (drop 20 s), length-drop 20 s)
  | no z ↦ omega (arith, ap length (sizes_common s refl z), length-replicate (u32_at s 16) (u32_at s 12), be_at_below 4 s 16 b)
]
