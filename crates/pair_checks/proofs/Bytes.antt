-- How large the numbers of stsz and of the chunk offsets are, which are read from bytes.
-- Assumes nothing.
use Prim.Native.Nat.{ℕ, zero, suc, ◌+◌, ◌*◌, ◌-◌, ◌/◌, ◌^◌, ◌≤◌, ◌<◌}
use mathlib.Core.Path.{◌≡◌, refl, sym, ap, ◌∙◌}
use mathlib.Core.Bool.{Bool, true, false}
use mathlib.Core.List.{List, [], ◌∷◌}
use native.Mathlib.Omega.{arith}
use native.Mathlib.Nat.{zero-mul, suc-mul, mul-le-mul_right}
use native.Mathlib.Decide.{ℕ_discrete, dec_lt}
use lib.Dec.{eqb, lit<}
use lib.ListN.{length, get_or, take, drop, replicate, length-replicate, get_or-replicate, get_or-eq_default}
use lib.Seq.{get_or-drop}
use Rattle.bigendian.specs.BigEndian.{u32_at}
use Rattle.bigendian.proofs.Laws.{be_at_below}
use Rattle.atoms.specs.Atoms.{kind_of}
use Rattle.atoms.specs.Kinds.{co64}
use Rattle.lists.specs.Lists.{sum, between}
use Rattle.words.specs.Words.{numbers_in, width_of, sizes, chunk_offsets}
use Rattle.words.proofs.Turns.{numbers_at, numbers_past, offsets_of, words_at, words_past, sizes_listed, sizes_common}

-- no size is above 32 bits, so that those of some samples add up to no more than as many times the largest
all_low : (b k : ℕ) (l : List ℕ) → ((i : ℕ) → get_or l i 0 ≤ b) → sum (take k l) ≤ k * b
all_low b zero l h = omega (arith, zero-mul b)
all_low b (suc k) [] h = omega arith
all_low b (suc k) (x ∷ l) h = omega (arith, suc-mul k b, h 0, all_low b k l (λ i. h (suc i)))

size_low : (z : List ℕ) → ((i : ℕ) → get_or z i 0 < 256) → (i : ℕ) → get_or (sizes z) i 0 ≤ 4294967295
size_low z h i = elim (ℕ_discrete (u32_at z 12) 0) [
  | yes e ↦ elim (dec_lt i (length (drop 20 z) / 4)) [
    | yes l ↦ omega (arith, ap (λ k. get_or k i 0) (sizes_listed z refl e) ∙ words_at (drop 20 z) i l, be_at_below 4 (drop 20 z) (i * 4) (λ k. let g = get_or-drop 20 z k 0 in omega (arith, h (20 + k))))
    | no l ↦ omega (arith, ap (λ k. get_or k i 0) (sizes_listed z refl e) ∙ words_past (drop 20 z) i (omega arith))
  ]
  | no e ↦ elim (dec_lt i (u32_at z 16)) [
    | yes l ↦ omega (arith, ap (λ k. get_or k i 0) (sizes_common z refl e) ∙ get_or-replicate (u32_at z 16) i (u32_at z 12) 0 l, be_at_below 4 z 12 h)
    | no l ↦ omega (arith, ap (λ k. get_or k i 0) (sizes_common z refl e) ∙ get_or-eq_default (replicate (u32_at z 16) (u32_at z 12)) 0 {n = i} (omega (arith, length-replicate (u32_at z 16) (u32_at z 12))))
  ]
]

-- those of fewer than 2 ^ 32 samples, added
pub between_low : (z : List ℕ) → ((i : ℕ) → get_or z i 0 < 256) → (i j : ℕ) → j ≤ 4294967295 → between (sizes z) i j ≤ 4294967295 * 4294967295
between_low z h i j l =
    let a = all_low 4294967295 (j - i) (drop i (sizes z)) (λ k. let g = get_or-drop i (sizes z) k 0 in omega (arith, size_low z h (i + k))) in
    let n : j - i ≤ 4294967295 = omega arith in
    omega (arith, mul-le-mul_right 4294967295 n)

-- no offset is above 64 bits, and in stco none is above 32
module _ (o : List ℕ) (h : (i : ℕ) → get_or o i 0 < 256) (k : ℕ) where
  below : (w b : ℕ) → 0 < w → 0 < b → 256 ^ w ≤ b → get_or (numbers_in w (drop 16 o)) k 0 < b
  below w b p q l = elim (dec_lt k (length (drop 16 o) / w)) [
    | yes i ↦ omega (arith, numbers_at w p (drop 16 o) k i, be_at_below w (drop 16 o) (k * w) (λ j. let g = get_or-drop 16 o j 0 in omega (arith, h (16 + j))))
    | no i ↦ omega (arith, numbers_past w p (drop 16 o) k (omega arith))
  ]

  pub offset_low : get_or (chunk_offsets o) k 0 < 18446744073709551616
  offset_low = rw (offsets_of o refl refl) (go (eqb (kind_of o) co64))
    where
      go : (long : Bool) → get_or (numbers_in (width_of long) (drop 16 o)) k 0 < 18446744073709551616
      go true = below 8 18446744073709551616 (lit< tt) (lit< tt) (omega arith)
      go false = below 4 18446744073709551616 (lit< tt) (lit< tt) (omega arith)

  pub narrow_low : eqb (kind_of o) co64 ≡ false → get_or (chunk_offsets o) k 0 < 4294967296
  narrow_low e = rw (offsets_of o (sym e) refl) (below 4 4294967296 (lit< tt) (lit< tt) (omega arith))
