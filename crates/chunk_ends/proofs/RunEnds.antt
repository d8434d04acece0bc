-- Refusal 12 of a run of chunks: it is asked chunk by chunk; where each chunk has as many bytes, of the offsets alone; and of a run and what follows it one
-- after the other.
-- Assumes nothing.
use Prim.Native.Nat.{ℕ, zero, suc, ◌+◌, ◌-◌, ◌*◌, ◌/◌, ◌^◌, ◌≤◌, ◌<◌, min, max}
use mathlib.Core.Path.{◌≡◌, refl, sym, ap, ◌∙◌}
use mathlib.Core.Bool.{Bool, true, false, cond}
use mathlib.Core.List.{List, [], ◌∷◌, ◌++◌}
use native.Mathlib.Nat.{suc-mul, zero-mul, le-div_iff_mul-le}
use native.Mathlib.Omega.{arith}
use native.Mathlib.Decide.{dec_lt, dec_le}
use lib.Dec.{ltb, leb}
use lib.ListN.{length, get_or, take, drop, replicate, length-drop, drop_of_length-le}
use lib.Seq.{take-nil, take_all, drop-drop, get_or-drop}
use borrow.Author.Tests.{lt-ltb, le-ltb, le-leb, lt-leb}
use Rattle.lists.specs.Lists.{sum}
use Rattle.lists.proofs.Laws.{wide_mul}
use Rattle.words.specs.Words.{numbers_in, words_in, width_of}
use Rattle.words.proofs.Turns.{width_above, numbers_none, numbers_drop, numbers_take, length_numbers, words_drop, words_take}
use Rattle.chunks.specs.Chunks.{end_within}
use Rattle.chunk_ends.specs.Ends.{none_above}

-- ---- places in a list and in a part

pub at_front : (i : ℕ) (l : List ℕ) → get_or l i 0 ≡ get_or (drop i l) 0 0
at_front i l = let e : i ≡ i + 0 = omega arith in ap (λ (k : ℕ). get_or l k 0) e ∙ sym (get_or-drop i l 0 0)

-- the first k numbers of a part z, and those after them, where n is no more than its length
module _ (z : List ℕ) (k : ℕ) {n : ℕ} (e : n ≡ min (k * 4) (length z)) where
  pub first_part : sum (words_in (take n z)) ≡ sum (take k (words_in z))
  first_part = ap (λ (l : List ℕ). sum (words_in l)) cut ∙ ap sum (words_take k z)
    where
      cut : take n z ≡ take (k * 4) z
      cut = elim (dec_le (k * 4) (length z)) [
        | yes h ↦ let m : n ≡ k * 4 = omega arith in ap (λ (j : ℕ). take j z) m
        | no h ↦ take_all n z (omega arith) ∙ sym (take_all (k * 4) z (omega arith))
      ]

  pub later_part : words_in (drop n z) ≡ drop k (words_in z)
  later_part = ap words_in cut ∙ words_drop k z
    where
      cut : drop n z ≡ drop (k * 4) z
      cut = elim (dec_le (k * 4) (length z)) [
        | yes h ↦ let m : n ≡ k * 4 = omega arith in ap (λ (j : ℕ). drop j z) m
        | no h ↦ drop_of_length-le z {i = n} (omega arith) ∙ sym (drop_of_length-le z {i = k * 4} (omega arith))
      ]

-- the bytes of the offsets of a run
pub width_fits : (long : Bool) {count width : ℕ} → count ≤ 2 ^ 32 → width ≡ width_of long → count * width < 2 ^ 64
width_fits true h e = wide_mul h (omega arith)
width_fits false h e = wide_mul h (omega arith)

-- ---- the first chunk of a run

-- with no sum: what is left of the limit past the offset
pub left_over : (limit base bytes : ℕ) → base ≤ limit → ltb (limit - base) bytes ≡ ltb limit (base + bytes)
left_over limit base bytes h = elim (dec_lt (limit - base) bytes) [
  | yes l ↦ lt-ltb (limit - base) bytes l ∙ sym (lt-ltb limit (base + bytes) (omega arith))
  | no l ↦ le-ltb (limit - base) bytes (omega arith) ∙ sym (le-ltb limit (base + bytes) (omega arith))
]

-- cs has the offsets, zs the sizes; the chunk's offset, its bytes, and whether they pass the limit
module _ (limit rest per : ℕ) (cs zs : List ℕ) (z : 0 < rest) {base bytes : ℕ} {past : Bool} (b : base ≡ get_or cs 0 0) (s : bytes ≡ sum (take per zs))
    (e : past ≡ ltb limit (base + bytes)) where
  opened : end_within limit (replicate rest per) cs zs ≡ cond past false (end_within limit (replicate (rest - 1) per) (drop 1 cs) (drop per zs))
  opened =
      let n : rest ≡ suc (rest - 1) = omega arith in
      ap (λ (k : ℕ). end_within limit (replicate k per) cs zs) n ∙ rw (e, b, s)

  pub first_over : past ≡ true → end_within limit (replicate rest per) cs zs ≡ false
  first_over h = opened ∙ rw h

  pub first_within : past ≡ false → {left : ℕ} {ds ys : List ℕ} → left ≡ rest - 1 → ds ≡ drop 1 cs → ys ≡ drop per zs →
      end_within limit (replicate left per) ds ys ≡ end_within limit (replicate rest per) cs zs
  first_within h n o q = rw (n, o, q) (sym (opened ∙ rw h))

pub none_remain : (limit rest per : ℕ) (cs zs : List ℕ) → rest ≡ 0 → end_within limit (replicate rest per) cs zs ≡ true
none_remain limit rest per cs zs z = rw z

-- ---- sizes that are all the same

pub same_after : (n v k : ℕ) → drop k (replicate n v) ≡ replicate (n - k) v
same_after n v zero = let e : n ≡ n - 0 = omega arith in ap (λ (m : ℕ). replicate m v) e
same_after zero v (suc k) = let e : 0 ≡ 0 - suc k = omega arith in ap (λ (m : ℕ). replicate m v) e
same_after (suc n) v (suc k) = let e : n - k ≡ suc n - suc k = omega arith in same_after n v k ∙ ap (λ (m : ℕ). replicate m v) e

-- the first k of them, added: as many as are not after them
pub same_sum : (n v k : ℕ) → sum (take k (replicate n v)) ≡ (n - (n - k)) * v
same_sum n v zero = let e : n - (n - 0) ≡ 0 = omega arith in rw (e, zero-mul)
same_sum zero v (suc k) = let e : 0 - (0 - suc k) ≡ 0 = omega arith in rw (e, zero-mul)
same_sum (suc n) v (suc k) =
    let e : suc n - (suc n - suc k) ≡ suc (n - (n - k)) = omega arith in
    rw (e, suc-mul) (omega (arith, same_sum n v k))

pub same_full : (n v k : ℕ) → k ≤ n → sum (take k (replicate n v)) ≡ k * v
same_full n v k h = let e : n - (n - k) ≡ k = omega arith in same_sum n v k ∙ ap (λ (m : ℕ). m * v) e

-- there are samples for each chunk: the bytes of each are taken off the limit
module _ (limit per v : ℕ) (l : per * v ≤ limit) where
  pub all_full : (count n : ℕ) (cs : List ℕ) → count * per ≤ n → end_within limit (replicate count per) cs (replicate n v) ≡ none_above (limit - per * v) (take count cs)
  all_full zero n cs h = refl
  all_full (suc count) n [] h =
      let f = same_full n v per (omega (arith, suc-mul count per)) in
      let m : 0 + sum (take per (replicate n v)) ≤ limit = omega arith in
      rw (le-ltb limit (0 + sum (take per (replicate n v))) m, same_after n v per) (all_full count (n - per) [] (omega (arith, suc-mul count per)) ∙ rw take-nil)
  all_full (suc count) n (x ∷ cs) h =
      let f = same_full n v per (omega (arith, suc-mul count per)) in
      elim (dec_lt (limit - per * v) x) [
        | yes k ↦
            let m : limit < x + sum (take per (replicate n v)) = omega arith in
            rw (lt-ltb limit (x + sum (take per (replicate n v))) m, lt-ltb (limit - per * v) x k)
        | no k ↦
            let m : x + sum (take per (replicate n v)) ≤ limit = omega arith in
            let q : x ≤ limit - per * v = omega arith in
            rw (le-ltb limit (x + sum (take per (replicate n v))) m, le-ltb (limit - per * v) x q, same_after n v per)
            (all_full count (n - per) cs (omega (arith, suc-mul count per)))
      ]

-- ---- the first of some offsets

-- cut out of a part, w being their width
module _ (long : Bool) (part : List ℕ) (count : ℕ) {w : ℕ} (f : w ≡ width_of long) where
  pub first_fits : count ≤ length part / w → count * w ≤ length part
  first_fits h = (le-div_iff_mul-le {k = w} {x = count} {y = length part} (rw f (width_above long))).0 h

  pub first_cut : numbers_in (width_of long) (take (count * w) part) ≡ take count (numbers_in (width_of long) part)
  first_cut = rw f (numbers_take (width_of long) (width_above long) count part)

  pub first_all : length part / w < count → numbers_in (width_of long) part ≡ take count (numbers_in (width_of long) part)
  first_all h =
      let e : length part / w ≡ length (numbers_in (width_of long) part) = ap (λ (k : ℕ). length part / k) f ∙ sym (length_numbers (width_of long) (width_above long) part) in
      sym (take_all count (numbers_in (width_of long) part) (omega arith))

-- two of them, and one that is left
module _ (long : Bool) (t : List ℕ) {step : ℕ} (f : step ≡ 2 * width_of long) where
  pub past_two : numbers_in (width_of long) (drop step t) ≡ drop 2 (numbers_in (width_of long) t)
  past_two = rw f (numbers_drop (width_of long) (width_above long) 2 t)

  pub past_one : length t < step → drop 1 (numbers_in (width_of long) t) ≡ []
  past_one h =
      sym (numbers_drop (width_of long) (width_above long) 1 t)
      ∙ numbers_none (width_of long) (width_above long) (drop (1 * width_of long) t) (omega (arith, length-drop (1 * width_of long) t, width_above long))

-- a number past the last is 0 and above nothing
above_first : (most : ℕ) (cs : List ℕ) → none_above most cs ≡ cond (ltb most (get_or cs 0 0)) false (none_above most (drop 1 cs))
above_first most [] = let e : ltb most 0 ≡ false = le-ltb most 0 (omega arith) in rw e
above_first most (x ∷ cs) = refl

not_above : (most : ℕ) (cs : List ℕ) → get_or cs 0 0 ≤ most → none_above most cs ≡ none_above most (drop 1 cs)
not_above most cs h = above_first most cs ∙ rw (le-ltb most (get_or cs 0 0) h)

is_above : (most : ℕ) (cs : List ℕ) → most < get_or cs 0 0 → none_above most cs ≡ false
is_above most cs h = above_first most cs ∙ rw (lt-ltb most (get_or cs 0 0) h)

module _ (most : ℕ) (cs : List ℕ) {x y : ℕ} (e : x ≡ get_or cs 0 0) (f : y ≡ get_or cs 1 0) where
  second : get_or (drop 1 cs) 0 0 ≡ get_or cs 1 0
  second = get_or-drop 1 cs 0 0

  pub two_above : most < max x y → none_above most cs ≡ false
  two_above h = elim (dec_lt most x) [
    | yes l ↦ is_above most cs (omega arith)
    | no l ↦ not_above most cs (omega arith) ∙ is_above most (drop 1 cs) (omega (arith, second))
  ]

  pub two_below : max x y ≤ most → none_above most (drop 2 cs) ≡ none_above most cs
  two_below h =
      sym (not_above most cs (omega arith) ∙ not_above most (drop 1 cs) (omega (arith, second)) ∙ ap (none_above most) (drop-drop 1 1 cs))

pub one_below : (most : ℕ) (cs : List ℕ) {x : ℕ} → x ≡ get_or cs 0 0 → drop 1 cs ≡ [] → leb x most ≡ none_above most cs
one_below most cs {x} e d = elim (dec_lt most x) [
  | yes l ↦ lt-leb x most l ∙ sym (is_above most cs (omega arith))
  | no l ↦ le-leb x most (omega arith) ∙ sym (not_above most cs (omega arith) ∙ rw d)
]

-- ---- a run, and what follows it

then : (a b c : Bool) → cond a false (cond b c false) ≡ cond (cond a false b) c false
then true b c = refl
then false b c = refl

pub run_then : (limit n p : ℕ) (qs cs zs : List ℕ) →
    end_within limit (replicate n p ++ qs) cs zs ≡ cond (end_within limit (replicate n p) cs zs) (end_within limit qs (drop n cs) (drop (n * p) zs)) false
run_then limit zero p qs cs zs = rw zero-mul
run_then limit (suc n) p qs cs zs =
    let e : 1 + n ≡ suc n = omega arith in
    let f : p + n * p ≡ suc n * p = omega (arith, suc-mul n p) in
    rw (run_then limit n p qs (drop 1 cs) (drop p zs), drop-drop n 1 cs, drop-drop (n * p) p zs, e, f) (then (ltb limit (get_or cs 0 0 + sum (take p zs))) _ _)
