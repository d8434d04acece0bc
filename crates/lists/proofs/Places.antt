-- Each number below the sum of the widths is held by exactly one of them; the parts of a stretch add up to its length; sums cut in two add up.
-- Assumes nothing.
use Prim.Native.Nat.{ℕ, zero, suc, ◌+◌, ◌-◌, ◌≤◌, ◌<◌, min, max}
use mathlib.Core.Path.{◌≡◌, refl, sym, ap, ◌∙◌}
use mathlib.Core.List.{List, [], ◌∷◌, ◌++◌, map}
use native.Mathlib.Nat.{zero-add}
use native.Mathlib.Omega.{arith}
use native.Mathlib.Decide.{dec_le, dec_lt}
use lib.ListN.{length, get_or, take, drop, length-append, get_or-append}
use lib.Seq.{take-add, drop-drop}
use borrow.Author.Tests.{lt-ltb, le-ltb, le-leb, lt-leb}
use Rattle.lists.specs.Lists.{up_to, sum, before, between, holder, Holds, indicator, part, parts}
use Rattle.lists.proofs.Laws.{holder_hit, holder_miss, sum_append}

pub before_suc : (ds : List ℕ) (i : ℕ) → before ds (suc i) ≡ before ds i + get_or ds i 0
before_suc [] zero = refl
before_suc [] (suc i) = refl
before_suc (d ∷ ds) zero = omega arith
before_suc (d ∷ ds) (suc i) = omega (arith, before_suc ds i)

pub before_le : (ds : List ℕ) (i : ℕ) → before ds i ≤ sum ds
before_le ds zero = omega arith
before_le [] (suc i) = omega arith
before_le (d ∷ ds) (suc i) = omega (arith, before_le ds i)

pub before_mono : (ds : List ℕ) (i j : ℕ) → i ≤ j → before ds i ≤ before ds j
before_mono ds zero j h = omega arith
before_mono ds (suc i) zero h = absurd (omega arith)
before_mono [] (suc i) (suc j) h = omega arith
before_mono (d ∷ ds) (suc i) (suc j) h = omega (arith, before_mono ds i j (omega arith))

-- from the end on, all are before
pub before_all : (ds : List ℕ) (i : ℕ) → length ds ≤ i → before ds i ≡ sum ds
before_all [] zero h = refl
before_all [] (suc i) h = refl
before_all (d ∷ ds) zero h = absurd (omega arith)
before_all (d ∷ ds) (suc i) h = omega (arith, before_all ds i (omega arith))

before_nil : (i : ℕ) → before [] i ≡ 0
before_nil zero = refl
before_nil (suc i) = refl

-- what is before an index, and from there on
pub before_drop : (ds : List ℕ) (i n : ℕ) → before ds i + before (drop i ds) n ≡ before ds (i + n)
before_drop ds zero n = let e : n ≡ 0 + n = omega arith in omega (arith, ap (before ds) e)
before_drop [] (suc i) n = omega (arith, before_nil n, before_nil (suc i + n))
before_drop (d ∷ ds) (suc i) n = let e : suc i + n ≡ suc (i + n) = omega arith in omega (arith, before_drop ds i n, ap (before (d ∷ ds)) e)

pub sum_drop : (ds : List ℕ) (i : ℕ) → before ds i + sum (drop i ds) ≡ sum ds
sum_drop ds zero = omega arith
sum_drop [] (suc i) = refl
sum_drop (d ∷ ds) (suc i) = omega (arith, sum_drop ds i)

pub past_end : (ds : List ℕ) (i : ℕ) → length ds ≤ i → get_or ds i 0 ≡ 0
past_end [] i h = refl
past_end (d ∷ ds) zero h = absurd (omega arith)
past_end (d ∷ ds) (suc i) h = past_end ds i (omega arith)

-- whatever holds t is a width of the list, and t is below their sum
pub holds_below : (ds : List ℕ) (t i : ℕ) → Holds ds t i → (t < sum ds) × (i < length ds)
holds_below ds t i h = elim (dec_lt i (length ds)) [
  | yes l ↦ (omega (arith, before_suc ds i, before_le ds (suc i)), l)
  | no l ↦ let z : get_or ds i 0 ≡ 0 = past_end ds i (omega arith) in absurd (omega arith)
]

-- the width that holds t is found
pub holder_holds : (ds : List ℕ) (t : ℕ) → t < sum ds → Holds ds t (holder ds t)
holder_holds [] t h = absurd (omega arith)
holder_holds (d ∷ ds) t h = elim (dec_lt t d) [
  | yes l ↦ rw (holder_hit d ds t l) (record { from = omega arith; to = omega arith })
  | no l ↦
      let le : d ≤ t = omega arith in
      let ih = holder_holds ds (t - d) (omega arith) in
      rw (holder_miss d ds t le) (record { from = omega arith; to = omega arith })
]

-- and nothing else holds it
pub holder_only : (ds : List ℕ) (t i : ℕ) → Holds ds t i → i ≡ holder ds t
holder_only [] t i h = absurd (omega (arith, holds_below [] t i h))
holder_only (d ∷ ds) t zero h = sym (holder_hit d ds t (omega arith))
holder_only (d ∷ ds) t (suc i) h =
    let le : d ≤ t = omega arith in
    sym (holder_miss d ds t le ∙ ap suc (sym (holder_only ds (t - d) i (record { from = omega arith; to = omega arith }))))

pub holder_mono : (ds : List ℕ) (t u : ℕ) → t ≤ u → holder ds t ≤ holder ds u
holder_mono [] t u h = omega arith
holder_mono (d ∷ ds) t u h = elim (dec_lt t d) [
  | yes l ↦ omega (arith, holder_hit d ds t l)
  | no l ↦
      let le : d ≤ t = omega arith in
      omega (arith, holder_miss d ds t le, holder_miss d ds u (omega arith), holder_mono ds (t - d) (u - d) (omega arith))
]

-- ---- parts of a stretch

-- x, moved into the stretch
clamp : ℕ → ℕ → ℕ → ℕ
clamp a b x = min b (max a x)

indicator_eq : (a b s : ℕ) → a ≤ b → indicator a b s + clamp a b s ≡ clamp a b (suc s)
unfolding clamp
indicator_eq a b s h = elim (dec_le a s) [
  | yes l ↦ elim (dec_lt s b) [
    | yes k ↦ rw (le-leb a s l, lt-ltb s b k) (omega arith)
    | no k ↦ let q : b ≤ s = omega arith in rw (le-leb a s l, le-ltb s b q) (omega arith)
  ]
  | no l ↦ let q : s < a = omega arith in rw (lt-leb a s q) (omega arith)
]

part_eq : (a b s d : ℕ) → a ≤ b → part a b s d + clamp a b s ≡ clamp a b (s + d)
part_eq a b s zero h = let e : s ≡ s + 0 = omega arith in zero-add _ ∙ ap (clamp a b) e
part_eq a b s (suc d) h =
    let e : suc s + d ≡ s + suc d = omega arith in
    omega (arith, indicator_eq a b s h, part_eq a b (suc s) d h, ap (clamp a b) e)

parts_eq : (a b s : ℕ) (ds : List ℕ) → a ≤ b → sum (parts a b s ds) + clamp a b s ≡ clamp a b (s + sum ds)
parts_eq a b s [] h = let e : s ≡ s + 0 = omega arith in zero-add _ ∙ ap (clamp a b) e
parts_eq a b s (d ∷ ds) h =
    let e : s + d + sum ds ≡ s + (d + sum ds) = omega arith in
    omega (arith, part_eq a b s d h, parts_eq a b (s + d) ds h, ap (clamp a b) e)

pub parts_sum : (a b : ℕ) (ds : List ℕ) → a ≤ b → b ≤ sum ds → sum (parts a b 0 ds) ≡ b - a
unfolding clamp
parts_sum a b ds h k = omega (arith, parts_eq a b 0 ds h)

-- ---- sums cut in two

pub between_split : (zs : List ℕ) (i m j : ℕ) → i ≤ m → m ≤ j → between zs i j ≡ between zs i m + between zs m j
between_split zs i m j h k =
    let e : j - i ≡ (m - i) + (j - m) = omega arith in
    let f : i + (m - i) ≡ m = omega arith in
    rw (e, take-add, sum_append, drop-drop, f)

-- one number by itself
pub between_one : (zs : List ℕ) (i : ℕ) → between zs i (suc i) ≡ get_or zs i 0
between_one zs i = let e : suc i - i ≡ 1 = omega arith in rw e (first_of zs i)
  where
    first_of : (l : List ℕ) (k : ℕ) → sum (take 1 (drop k l)) ≡ get_or l k 0
    first_of [] zero = refl
    first_of [] (suc k) = refl
    first_of (x ∷ l) zero = omega arith
    first_of (x ∷ l) (suc k) = first_of l k

-- ---- a number for each index

length_up : (n : ℕ) → length (up_to n) ≡ n
length_up zero = refl
length_up (suc n) = omega (arith, length-append (up_to n) (n ∷ []), length_up n)

last_at : (l : List ℕ) (n i : ℕ) → i ≡ length l → get_or (l ++ n ∷ []) i 0 ≡ n
last_at [] n i e = rw e
last_at (x ∷ l) n i e = rw e (last_at l n (length l) refl)

up_at : (n i : ℕ) → i < n → get_or (up_to n) i 0 ≡ i
up_at zero i h = absurd (omega arith)
up_at (suc n) i h = elim (dec_lt i n) [
  | yes l ↦ get_or-append (up_to n) (n ∷ []) 0 i (omega (arith, length_up n)) ∙ up_at n i l
  | no l ↦ let e : i ≡ n = omega arith in last_at (up_to n) n i (e ∙ sym (length_up n)) ∙ sym e
]

map_at : {A : Type 0} (f : ℕ → A) (l : List ℕ) (i : ℕ) (d : A) → i < length l → get_or (map f l) i d ≡ f (get_or l i 0)
map_at f [] i d h = absurd (omega arith)
map_at f (x ∷ l) zero d h = refl
map_at f (x ∷ l) (suc i) d h = map_at f l i d (omega arith)

pub each_at : {A : Type 0} (f : ℕ → A) (n i : ℕ) (d : A) → i < n → get_or (map f (up_to n)) i d ≡ f i
each_at f n i d h = map_at f (up_to n) i d (omega (arith, length_up n)) ∙ ap f (up_at n i h)
