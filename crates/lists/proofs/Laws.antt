-- Laws of sums and places over runs, and of three loops over a run-length table: `Walk` (where does t fall), `Search` (what stands at index i) and
-- `Adding` (the sum). Each loop keeps what the runs not yet read say of the whole.
-- Assumes nothing.
use Prim.Native.Nat.{ℕ, zero, suc, ◌+◌, ◌-◌, ◌*◌, ◌/◌, ◌%◌, ◌^◌, ◌≤◌, ◌<◌}
use mathlib.Core.Path.{◌≡◌, refl, sym, ap, ◌∙◌}
use mathlib.Core.List.{List, [], ◌∷◌, ◌++◌}
use native.Mathlib.Nat.{div-add-mod', mul-le-mul, mul-le-mul_left, add-mul, le-pred_of_lt, div-lt_iff_lt-mul, suc-mul, zero-mul, mul-zero, zero-add, div-eq_of_lt, div-eq-sub-div}
use native.Mathlib.Omega.{arith}
use native.Mathlib.Decide.{dec_lt}
use lib.ListN.{length, take, drop, get_or, replicate, length-append, length-replicate}
use lib.Seq.{take-nil}
use borrow.Author.Tests.{lt-ltb, le-ltb}
use Rattle.lists.specs.Lists.{sum, before, between, holder}

-- ---- sums

pub sum_append : (xs ys : List ℕ) → sum (xs ++ ys) ≡ sum xs + sum ys
sum_append [] ys = sym (zero-add (sum ys))
sum_append (x ∷ xs) ys = omega (arith, sum_append xs ys)

pub sum_replicate : (n v : ℕ) → sum (replicate n v) ≡ n * v
sum_replicate zero v = sym (zero-mul v)
sum_replicate (suc n) v = omega (arith, sum_replicate n v, suc-mul n v)

pub pos_of_lt_mul : (n v t : ℕ) → t < n * v → 0 < v
pos_of_lt_mul n zero t h = absurd (omega (arith, mul-zero n))
pos_of_lt_mul n (suc v) t h = omega arith

-- ---- where a number falls

pub holder_hit : (d : ℕ) (ds : List ℕ) (t : ℕ) → t < d → holder (d ∷ ds) t ≡ 0
holder_hit d ds t h = rw (lt-ltb t d h)

pub holder_miss : (d : ℕ) (ds : List ℕ) (t : ℕ) → d ≤ t → holder (d ∷ ds) t ≡ suc (holder ds (t - d))
holder_miss d ds t h = rw (le-ltb t d h)

-- ---- a run and what follows it

module _ (v : ℕ) (r : List ℕ) where
  pub length_run : (n : ℕ) → length (replicate n v ++ r) ≡ n + length r
  length_run n = simp (length-append, length-replicate)

  pub sum_run : (n : ℕ) → sum (replicate n v ++ r) ≡ n * v + sum r
  sum_run n = simp (sum_append, sum_replicate)

  pub holder_in : (n t : ℕ) → t < n * v → holder (replicate n v ++ r) t ≡ t / v
  holder_in zero t h = absurd (omega (arith, zero-mul v))
  holder_in (suc n) t h =
      elim (dec_lt t v) [
        | yes l ↦ holder_hit v (replicate n v ++ r) t l ∙ sym (div-eq_of_lt l)
        | no l ↦
            let le : v ≤ t = omega arith in
            let ih : holder (replicate n v ++ r) (t - v) ≡ (t - v) / v = holder_in n (t - v) (omega (arith, suc-mul n v)) in
            omega (arith, holder_miss v (replicate n v ++ r) t le, ih, div-eq-sub-div (pos_of_lt_mul (suc n) v t h) le)
      ]

  pub holder_past : (n t : ℕ) → n * v ≤ t → holder (replicate n v ++ r) t ≡ n + holder r (t - n * v)
  holder_past zero t h =
      let e : t ≡ t - 0 * v = omega (arith, zero-mul v) in
      ap (holder r) e ∙ sym (zero-add (holder r (t - 0 * v)))
  holder_past (suc n) t h =
      let le : v ≤ t = omega (arith, suc-mul n v) in
      let e : t - v - n * v ≡ t - suc n * v = omega (arith, suc-mul n v) in
      let ih : holder (replicate n v ++ r) (t - v) ≡ n + holder r (t - v - n * v) = holder_past n (t - v) (omega (arith, suc-mul n v)) in
      omega (arith, holder_miss v (replicate n v ++ r) t le, ih, ap (holder r) e)

-- ---- a list at an index, by its runs

module _ (v : ℕ) (r : List ℕ) where
  pub before_in : (n k : ℕ) → k ≤ n → before (replicate n v ++ r) k ≡ k * v
  before_in n zero h = sym (zero-mul v)
  before_in zero (suc k) h = absurd (omega arith)
  before_in (suc n) (suc k) h = omega (arith, before_in n k (omega arith), suc-mul k v)

  pub before_past : (n k : ℕ) → n ≤ k → before (replicate n v ++ r) k ≡ n * v + before r (k - n)
  before_past zero k h =
      let e : k ≡ k - 0 = omega arith in
      omega (arith, zero-mul v, ap (before r) e)
  before_past (suc n) zero h = absurd (omega arith)
  before_past (suc n) (suc k) h =
      let e : suc k - suc n ≡ k - n = omega arith in
      omega (arith, before_past n k (omega arith), suc-mul n v, ap (before r) e)

  pub get_or_in : (n k : ℕ) → k < n → get_or (replicate n v ++ r) k 0 ≡ v
  get_or_in zero k h = absurd (omega arith)
  get_or_in (suc n) zero h = refl
  get_or_in (suc n) (suc k) h = get_or_in n k (omega arith)

  pub get_or_past : (n k : ℕ) → n ≤ k → get_or (replicate n v ++ r) k 0 ≡ get_or r (k - n) 0
  get_or_past zero k h = let e : k ≡ k - 0 = omega arith in ap (λ (j : ℕ). get_or r j 0) e
  get_or_past (suc n) zero h = absurd (omega arith)
  get_or_past (suc n) (suc k) h =
      let e : k - n ≡ suc k - suc n = omega arith in
      get_or_past n k (omega arith) ∙ ap (λ (j : ℕ). get_or r j 0) e

  -- where the width that holds t starts, past a run
  pub past_before : (n t : ℕ) → n * v ≤ t → before (replicate n v ++ r) (holder (replicate n v ++ r) t) ≡ n * v + before r (holder r (t - n * v))
  past_before n t h =
      let e : n + holder r (t - n * v) - n ≡ holder r (t - n * v) = omega arith in
      rw (holder_past v r n t h, before_past n (n + holder r (t - n * v)) (omega arith), e)

-- ---- a walk over the runs of a list of widths: what is passed, and what is left of the number

pub record Walk (ds rest : List ℕ) (t passed left : ℕ) : Type 0 where
  pub counted : passed + length rest ≡ length ds
  pub summed : t + sum rest ≡ left + sum ds
  pub placed : holder ds t ≡ passed + holder rest left
  pub begun : before ds (holder ds t) + left ≡ t + before rest (holder rest left)

pub walk_start : (ds : List ℕ) (t : ℕ) → Walk ds ds t 0 t
walk_start ds t = record { counted = zero-add _; summed = refl; placed = sym (zero-add _); begun = omega arith }

-- a walk that stands before a run of n times v and the rest r: as a record, so that n, v and r are read off it
pub record Ahead (ds : List ℕ) (n v : ℕ) (r : List ℕ) (t passed left : ℕ) : Type 0 where
  pub walk : Walk ds (replicate n v ++ r) t passed left

-- t falls in the width with the index i, w past its start
pub record In (ds : List ℕ) (t i w : ℕ) : Type 0 where
  pub below : t < sum ds
  pub few : i < length ds
  pub place : holder ds t ≡ i
  pub start : before ds (holder ds t) + w ≡ t

pub in_within : {ds : List ℕ} {t i w : ℕ} → In ds t i w → t - before ds (holder ds t) ≡ w
in_within f = omega arith

module _ {ds : List ℕ} {n v : ℕ} {r : List ℕ} {t p l : ℕ} (a : Ahead ds n v r t p l) where
  pub walk_past : n * v ≤ l → Walk ds r t (p + n) (l - n * v)
  walk_past h = record {
    counted = omega (arith, length_run v r n);
    summed = omega (arith, sum_run v r n);
    placed = omega (arith, holder_past v r n l h);
    begun = omega (arith, past_before v r n l h);
  }

  pub walk_fits : p + n ≤ length ds
  walk_fits = omega (arith, length_run v r n)

  pub walk_in : l < n * v → In ds t (p + l / v) (l % v)
  walk_in h =
      let q : l / v < n = (div-lt_iff_lt-mul {y = n} (pos_of_lt_mul n v l h)).1 h in
      record {
        below = omega (arith, sum_run v r n);
        few = omega (arith, length_run v r n);
        place = omega (arith, holder_in v r n l h);
        start = omega (arith, ap (before (replicate n v ++ r)) (holder_in v r n l h), before_in v r n (l / v) (omega arith), div-add-mod' l v);
      }

pub walk_end : {ds : List ℕ} {t p l : ℕ} → Walk ds [] t p l → sum ds ≤ t
walk_end w = omega arith

-- a product of two 32-bit numbers, and of 2 ^ 32 and one, is a 64-bit number
pub wide_mul : {a b : ℕ} → a ≤ 2 ^ 32 → b < 2 ^ 32 → a * b < 2 ^ 64
wide_mul {a} {b} h k = omega (arith, mul-le-mul {n₂ = 4294967296} {m₂ = 4294967295} h (le-pred_of_lt k))

-- and of two 32-bit numbers at most this, so that a 32-bit number can be added
pub product_max : (a b : ℕ) → a < 2 ^ 32 → b < 2 ^ 32 → a * b ≤ 18446744065119617025
product_max a b h k = mul-le-mul {n₂ = 4294967295} {m₂ = 4294967295} (le-pred_of_lt h) (le-pred_of_lt k)

-- a search for index i: start is the sum of what is passed, skip how many are still to pass; each number passed is at most m
pub record Search (m : ℕ) (ds rest : List ℕ) (i skip start : ℕ) : Type 0 where
  pub started : before ds i ≡ start + before rest skip
  pub same : get_or ds i 0 ≡ get_or rest skip 0
  pub small : start + skip * m ≤ i * m

pub record Next (m : ℕ) (ds : List ℕ) (n v : ℕ) (r : List ℕ) (i skip start : ℕ) : Type 0 where
  pub search_at : Search m ds (replicate n v ++ r) i skip start
  pub low : v ≤ m

pub search_start : (m : ℕ) (ds : List ℕ) (i : ℕ) → Search m ds ds i i 0
search_start m ds i = record { started = sym (zero-add _); same = refl; small = omega arith }

module _ {m : ℕ} {ds : List ℕ} {n v : ℕ} {r : List ℕ} {i k s : ℕ} (a : Next m ds n v r i k s) where
  pub search_past : n ≤ k → Search m ds r i (k - n) (s + n * v)
  search_past h = record {
    started = omega (arith, before_past v r n k h);
    same = a.search_at.same ∙ get_or_past v r n k h;
    small =
        let e : (k - n) + n ≡ k = omega arith in
        omega (arith, sym (add-mul (k - n) n m) ∙ ap (λ (x : ℕ). x * m) e, mul-le-mul_left n a.low);
  }

  -- the sum so far and the next run's, whole or in part, at most m for each number up to i
  pub search_fits : (j : ℕ) → j ≤ k → s + j * v ≤ i * m
  search_fits j h = omega (arith, mul-le-mul h a.low)

  pub search_in : k < n → (before ds i ≡ s + k * v) × (get_or ds i 0 ≡ v)
  search_in h = (omega (arith, before_in v r n k (omega arith)), a.search_at.same ∙ get_or_in v r n k h)

pub search_end : {m : ℕ} {ds : List ℕ} {i k s : ℕ} → Search m ds [] i k s → (before ds i ≡ s) × (get_or ds i 0 ≡ 0)
search_end {k} w = (omega (arith, ap sum (take-nil k)), w.same)

-- ---- a sum over runs, each number at most m: total is the sum of what is passed
pub record Adding (m : ℕ) (ds rest : List ℕ) (total : ℕ) : Type 0 where
  pub added : total + sum rest ≡ sum ds
  pub bounded : total + length rest * m ≤ length ds * m

pub adding_past : (m : ℕ) (ds : List ℕ) (n v : ℕ) (r : List ℕ) (total : ℕ) → v ≤ m → Adding m ds (replicate n v ++ r) total → Adding m ds r (total + n * v)
adding_past m ds n v r total h a = record {
  added = omega (arith, sum_run v r n);
  bounded = omega (arith, ap (λ (k : ℕ). k * m) (length_run v r n) ∙ add-mul n (length r) m, mul-le-mul_left n h);
}

-- ---- a run cut after some of its numbers

pub drop_in : (v : ℕ) (r : List ℕ) (n k : ℕ) → k ≤ n → drop k (replicate n v ++ r) ≡ replicate (n - k) v ++ r
drop_in v r n zero h = let e : n ≡ n - 0 = omega arith in ap (λ (m : ℕ). replicate m v ++ r) e
drop_in v r zero (suc k) h = absurd (omega arith)
drop_in v r (suc n) (suc k) h = let e : n - k ≡ suc n - suc k = omega arith in drop_in v r n k (omega arith) ∙ ap (λ (m : ℕ). replicate m v ++ r) e

pub replicate_cons : (n v : ℕ) (r : List ℕ) → 0 < n → replicate n v ++ r ≡ v ∷ (replicate (n - 1) v ++ r)
replicate_cons zero v r h = absurd (omega arith)
replicate_cons (suc n) v r h = let e : n ≡ suc n - 1 = omega arith in ap (λ (k : ℕ). v ∷ (replicate k v ++ r)) e

-- ---- parts of a run, added

pub replicate_drop : (n v i : ℕ) → i ≤ n → drop i (replicate n v) ≡ replicate (n - i) v
replicate_drop n v zero h = let e : n ≡ n - 0 = omega arith in ap (λ (k : ℕ). replicate k v) e
replicate_drop zero v (suc i) h = absurd (omega arith)
replicate_drop (suc n) v (suc i) h = let e : n - i ≡ suc n - suc i = omega arith in replicate_drop n v i (omega arith) ∙ ap (λ (k : ℕ). replicate k v) e

pub replicate_take : (n v k : ℕ) → k ≤ n → take k (replicate n v) ≡ replicate k v
replicate_take n v zero h = refl
replicate_take zero v (suc k) h = absurd (omega arith)
replicate_take (suc n) v (suc k) h = ap (λ (l : List ℕ). v ∷ l) (replicate_take n v k (omega arith))

pub replicate_between : (n v i j : ℕ) → i ≤ j → j ≤ n → between (replicate n v) i j ≡ (j - i) * v
replicate_between n v i j h k = rw (replicate_drop n v i (omega arith), replicate_take (n - i) v (j - i) (omega arith)) (sum_replicate (j - i) v)
