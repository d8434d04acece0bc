-- One number of a part, read off its front or at an index, over its width, and the sizes of stsz by the common size: each follows from the laws of rows.
-- Assumes nothing.
use Prim.Native.Nat.{ℕ, zero, suc, ◌+◌, ◌*◌, ◌/◌, ◌≤◌, ◌<◌}
use mathlib.Core.Path.{◌≡◌, refl, sym, ap, ◌∙◌}
use mathlib.Core.Bool.{Bool, true, false}
use mathlib.Core.List.{List, [], ◌∷◌, map}
use native.Mathlib.Nat.{add-zero, suc-mul, le-div_iff_mul-le}
use native.Mathlib.Omega.{arith}
use lib.Dec.{eqb, lit<}
use lib.ListN.{length, take, drop, get_or, replicate, length-map, length-drop, get_or-eq_default}
use lib.Seq.{get_or-drop}
use borrow.Author.Tests.{eq-eqb, ne_eqb}
use Rattle.bigendian.specs.BigEndian.{be_at, u32_at}
use Rattle.bigendian.proofs.Laws.{be_at_take, be_at_drop}
use Rattle.lists.specs.Lists.{sum}
use Rattle.lists.specs.Entries.{rows_of, entries}
use Rattle.lists.proofs.Cuts.{rows_drop, rows_take}
use Rattle.lists.proofs.Rows.{rows_none, rows_next, length_rows}
use Rattle.atoms.specs.Atoms.{kind_of}
use Rattle.atoms.specs.Kinds.{co64}
use Rattle.words.specs.Words.{numbers_in, words_in, words_after, sizes, width_of, offset_width, chunk_offsets, syncs}

-- a table's numbers are those of what follows its head
pub words-after : (head : ℕ) (s : List ℕ) → words_after head s ≡ words_in (drop head s)
unfolding words_after numbers_in entries
words-after head s = refl

pub offsets_in : (s : List ℕ) → chunk_offsets s ≡ numbers_in (offset_width s) (drop 16 s)
unfolding chunk_offsets
offsets_in s = refl

pub syncs_in : (s : List ℕ) → syncs s ≡ words_in (drop 16 s)
unfolding syncs
syncs_in s = words-after 16 s

-- ---- the width of an offset

pub width_is : (s : List ℕ) {long : Bool} → long ≡ eqb (kind_of s) co64 → offset_width s ≡ width_of long
unfolding offset_width
width_is s e = ap width_of (sym e)

pub width_above : (long : Bool) → 0 < width_of long
width_above true = lit< tt
width_above false = lit< tt

pub width_positive : (s : List ℕ) → 0 < offset_width s
unfolding offset_width
width_positive s = width_above (eqb (kind_of s) co64)

-- t is what follows the head
pub offsets_of : (s : List ℕ) {long : Bool} {t : List ℕ} → long ≡ eqb (kind_of s) co64 → t ≡ drop 16 s → chunk_offsets s ≡ numbers_in (width_of long) t
offsets_of s e p = offsets_in s ∙ ap (λ (w : ℕ). numbers_in w (drop 16 s)) (width_is s e) ∙ ap (numbers_in _) (sym p)

-- ---- numbers, over the width

map_drop : (f : List ℕ → ℕ) (k : ℕ) (l : List (List ℕ)) → map f (drop k l) ≡ drop k (map f l)
map_drop f zero l = refl
map_drop f (suc k) [] = refl
map_drop f (suc k) (x ∷ l) = map_drop f k l

map_take : (f : List ℕ → ℕ) (k : ℕ) (l : List (List ℕ)) → map f (take k l) ≡ take k (map f l)
map_take f zero l = refl
map_take f (suc k) [] = refl
map_take f (suc k) (x ∷ l) = ap (λ (r : List ℕ). f x ∷ r) (map_take f k l)

module _ (w : ℕ) (p : 0 < w) where
  pub numbers_none : (t : List ℕ) → length t < w → numbers_in w t ≡ []
  unfolding numbers_in
  numbers_none t h = ap (map (λ e. be_at w e 0)) (rows_none w t h)

  pub numbers_next : (t : List ℕ) → w ≤ length t → numbers_in w t ≡ be_at w t 0 ∷ numbers_in w (drop w t)
  unfolding numbers_in
  numbers_next t h = ap (map (λ e. be_at w e 0)) (rows_next w t p h) ∙ ap (λ (x : ℕ). x ∷ numbers_in w (drop w t)) (be_at_take w w t 0 (omega arith))

  pub length_numbers : (t : List ℕ) → length (numbers_in w t) ≡ length t / w
  unfolding numbers_in
  length_numbers t = length-map (rows_of w t) (λ e. be_at w e 0) ∙ length_rows w t

  -- the numbers from an index on, and the first k
  pub numbers_drop : (k : ℕ) (t : List ℕ) → numbers_in w (drop (k * w) t) ≡ drop k (numbers_in w t)
  unfolding numbers_in
  numbers_drop k t = ap (map (λ e. be_at w e 0)) (rows_drop w p k t) ∙ map_drop (λ e. be_at w e 0) k (rows_of w t)

  pub numbers_take : (k : ℕ) (t : List ℕ) → numbers_in w (take (k * w) t) ≡ take k (numbers_in w t)
  unfolding numbers_in
  numbers_take k t = ap (map (λ e. be_at w e 0)) (rows_take w p k t) ∙ map_take (λ e. be_at w e 0) k (rows_of w t)

  -- the number with an index
  pub numbers_at : (t : List ℕ) (i : ℕ) → i < length t / w → get_or (numbers_in w t) i 0 ≡ be_at w t (i * w)
  numbers_at t i h =
      let n : w ≤ length (drop (i * w) t) = omega (arith, length-drop (i * w) t, (le-div_iff_mul-le p).0 h, suc-mul i w) in
      let e : i ≡ i + 0 = omega arith in
      ap (λ (k : ℕ). get_or (numbers_in w t) k 0) e
      ∙ sym (get_or-drop i (numbers_in w t) 0 0)
      ∙ ap (λ (l : List ℕ). get_or l 0 0) (sym (numbers_drop i t) ∙ numbers_next (drop (i * w) t) n)
      ∙ be_at_drop w (i * w) t 0
      ∙ ap (be_at w t) (add-zero (i * w))

  pub numbers_past : (t : List ℕ) (i : ℕ) → length t / w ≤ i → get_or (numbers_in w t) i 0 ≡ 0
  numbers_past t i h = get_or-eq_default (numbers_in w t) 0 {n = i} (omega (arith, length_numbers t))

-- ---- numbers of 32 bits

pub words_none : (t : List ℕ) → length t < 4 → words_in t ≡ []
words_none t h = numbers_none 4 (lit< tt) t h

pub words_next : (t : List ℕ) → 4 ≤ length t → words_in t ≡ u32_at t 0 ∷ words_in (drop 4 t)
words_next t h = numbers_next 4 (lit< tt) t h

-- of a part that has one number, or two
pub one_word : (t : List ℕ) → length t ≡ 4 → sum (words_in t) ≡ u32_at t 0
one_word t h =
    let d : length (drop 4 t) < 4 = omega (arith, length-drop 4 t) in
    ap sum (words_next t (omega arith) ∙ ap (λ l. u32_at t 0 ∷ l) (words_none (drop 4 t) d)) ∙ add-zero (u32_at t 0)

pub two_words : (t : List ℕ) → length t ≡ 8 → sum (words_in t) ≡ u32_at t 0 + u32_at t 4
two_words t h =
    let d : length (drop 4 t) ≡ 4 = omega (arith, length-drop 4 t) in
    ap sum (words_next t (omega arith)) ∙ ap (λ (n : ℕ). u32_at t 0 + n) (one_word (drop 4 t) d ∙ be_at_drop 4 4 t 0)

pub length_words : (t : List ℕ) → length (words_in t) ≡ length t / 4
length_words t = length_numbers 4 (lit< tt) t

pub words_drop : (k : ℕ) (t : List ℕ) → words_in (drop (k * 4) t) ≡ drop k (words_in t)
words_drop k t = numbers_drop 4 (lit< tt) k t

pub words_take : (k : ℕ) (t : List ℕ) → words_in (take (k * 4) t) ≡ take k (words_in t)
words_take k t = numbers_take 4 (lit< tt) k t

pub words_at : (t : List ℕ) (i : ℕ) → i < length t / 4 → get_or (words_in t) i 0 ≡ u32_at t (i * 4)
words_at t i h = numbers_at 4 (lit< tt) t i h

pub words_past : (t : List ℕ) (i : ℕ) → length t / 4 ≤ i → get_or (words_in t) i 0 ≡ 0
words_past t i h = numbers_past 4 (lit< tt) t i h

-- ---- sizes that are listed, and a common size

pub sizes_listed : (s : List ℕ) {common : ℕ} → common ≡ u32_at s 12 → common ≡ 0 → sizes s ≡ words_in (drop 20 s)
unfolding sizes
sizes_listed s e z = rw (eq-eqb (u32_at s 12) 0 (sym e ∙ z)) (words-after 20 s)

pub sizes_common : (s : List ℕ) {common : ℕ} → common ≡ u32_at s 12 → (common ≡ 0 → ⊥) → sizes s ≡ replicate (u32_at s 16) common
unfolding sizes
sizes_common s {common} e z = rw (← e, ne_eqb common 0 z)
