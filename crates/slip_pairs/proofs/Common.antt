-- Pairs of chunks whose samples have a common size: the lengths of their offsets, and as often the length of what is common.
-- Assumes nothing.
use Prim.Native.Nat.{ℕ, suc, ◌+◌, ◌*◌, ◌/◌, ◌^◌, ◌≤◌, ◌<◌}
use mathlib.Core.Path.{◌≡◌, refl, sym, ap, ◌∙◌}
use mathlib.Core.Bool.{Bool, false, cond, ◌||◌}
use mathlib.Core.List.{List, [], ◌∷◌}
use native.Mathlib.Omega.{arith}
use native.Mathlib.Decide.{dec_lt}
use borrow.Author.Tests.{lt-leb}
use native.Mathlib.Nat.{suc-mul}
use lib.ListN.{length, get_or, take, drop, length-append}
use lib.Dec.{leb}
use Rattle.bigendian.specs.BigEndian.{u32_at}
use Rattle.bigendian.proofs.Laws.{be_at_below}
use Rattle.words.specs.Words.{numbers_in, words_in, width_of}
use Rattle.words.proofs.Turns.{words_none, words_next, length_words, words_at, words_past}
use Rattle.leb128.specs.Numbers.{groups, writes}
use Rattle.slip_head.specs.Bytes.{any_wide}
use Rattle.pairs.specs.Pairs.{flat}
use Rattle.lists.specs.Lists.{sum}
use Rattle.pairs.specs.Walks.{first_pair, run_pairs, equal_length_pairs}
use Rattle.pairs.specs.declared.WholeRun.{WholeRun}
use Rattle.pair_bytes.specs.Measures.{pair_bytes, measured_of}
use Rattle.pair_bytes.specs.declared.Measured.{Measured}
use Rattle.pair_bytes.proofs.Streaming.{length_bytes, one_length}

-- one turn of the loop over words
pub words_turn : (t : List ℕ) → 4 ≤ length t → length (writes (words_in t)) ≡ length (groups (u32_at t 0)) + length (writes (words_in (drop 4 t)))
unfolding writes
words_turn t h = rw (words_next t h) (length-append (groups (u32_at t 0)) (writes (words_in (drop 4 t))))

pub words_done : (t : List ℕ) → length t < 4 → length (writes (words_in t)) ≡ 0
unfolding writes
words_done t h = rw (words_none t h)

or_none : (a b c : Bool) → a ≡ false → b ≡ false → c ≡ false → (a || (b || c)) ≡ false
or_none a b c e f g = rw (e, f, g)

module _ (r : WholeRun) (common : r.listed ≡ false) where
  second : (cs zs : List ℕ) → (first_pair r cs zs).length ≡ r.bytes
  second cs zs = ap (λ (f : Bool). cond f (sum (take r.per zs)) r.bytes) common

  common_bytes : (cs zs : List ℕ) → length (pair_bytes (run_pairs r cs zs)) ≡ length (writes cs) + length cs * length (groups r.bytes)
  unfolding pair_bytes writes
  common_bytes [] zs = omega arith
  common_bytes (c ∷ cs) zs =
      let q = first_pair r (c ∷ cs) zs in
      let rest = run_pairs r cs (drop r.per zs) in
      omega (
        arith,
        length_bytes (q ∷ []) rest,
        one_length q,
        ap (λ (x : ℕ). length (groups x)) (second (c ∷ cs) zs),
        length-append (groups c) (writes cs),
        suc-mul (length cs) (length (groups r.bytes)),
        common_bytes cs (drop r.per zs),
      )

  common_narrow : (cs zs : List ℕ) → r.bytes < 2 ^ 32 → ((i : ℕ) → get_or cs i 0 < 2 ^ 32) → any_wide (flat (run_pairs r cs zs)) ≡ false
  unfolding any_wide
  common_narrow [] zs h b = refl
  common_narrow (c ∷ cs) zs h b =
      let l : (first_pair r (c ∷ cs) zs).length < 2 ^ 32 = omega (arith, second (c ∷ cs) zs) in
      or_none (leb (2 ^ 32) c) (leb (2 ^ 32) (first_pair r (c ∷ cs) zs).length) (any_wide (flat (run_pairs r cs (drop r.per zs))))
      (lt-leb (2 ^ 32) c (b 0))
      (lt-leb (2 ^ 32) (first_pair r (c ∷ cs) zs).length l)
      (common_narrow cs (drop r.per zs) h (λ i. b (suc i)))

  pub common_pairs : (cs zs : List ℕ) → run_pairs r cs zs ≡ equal_length_pairs r.bytes cs
  common_pairs [] zs = refl
  common_pairs (c ∷ cs) zs =
      let rest = common_pairs cs (drop r.per zs) in
      λ k. record { offset = c; length = second (c ∷ cs) zs k } ∷ rest k

-- a turn of the loop that writes them, and its end
pub common_next : (bytes : ℕ) (t : List ℕ) → 4 ≤ length t → (o : ℕ) → o ≡ u32_at t 0
    → equal_length_pairs bytes (words_in t) ≡ record { offset = o; length = bytes } ∷ equal_length_pairs bytes (words_in (drop 4 t))
common_next bytes t h o e = rw e (ap (equal_length_pairs bytes) (words_next t h))

pub common_end : (bytes : ℕ) (t : List ℕ) → length t < 4 → equal_length_pairs bytes (words_in t) ≡ []
common_end bytes t h = ap (equal_length_pairs bytes) (words_none t h)

-- a 32-bit number of a table
narrow : (t : List ℕ) → ((x : ℕ) → get_or t x 0 < 256) → (i : ℕ) → get_or (words_in t) i 0 < 2 ^ 32
narrow t are i = elim (dec_lt i (length t / 4)) [
  | yes h ↦ rw (words_at t i h) (be_at_below 4 t (i * 4) are)
  | no h ↦ rw (words_past t i (omega arith)) (omega arith)
]

module _ (r : WholeRun) (t z : List ℕ) (short : r.long ≡ false) (common : r.listed ≡ false) where
  -- their bytes
  pub common_length : length (writes (words_in t)) + length t / 4 * length (groups r.bytes) ≡ length (pair_bytes (run_pairs r (numbers_in (width_of r.long) t) (words_in z)))
  common_length =
      rw (length_words t) at (sym (common_bytes r common (words_in t) (words_in z)))
      ∙ ap (λ (x : Bool). length (pair_bytes (run_pairs r (numbers_in (width_of x) t) (words_in z)))) (sym short)

  pub common_measured : r.bytes < 2 ^ 32 → ((x : ℕ) → get_or t x 0 < 256) → (a b : ℕ) → a ≡ length (writes (words_in t)) → b ≡ length (groups r.bytes)
      → ◌≡◌ {A = Measured} (record { bytes = a + length t / 4 * b; wide = false }) (measured_of (run_pairs r (numbers_in (width_of r.long) t) (words_in z)))
  common_measured h are a b e f =
      let n : a + length t / 4 * b ≡ length (pair_bytes (run_pairs r (numbers_in (width_of r.long) t) (words_in z))) = rw (e, f) common_length in
      let w : false ≡ any_wide (flat (run_pairs r (numbers_in (width_of r.long) t) (words_in z))) =
      sym (common_narrow r common (words_in t) (words_in z) h (narrow t are)) ∙ ap (λ (x : Bool). any_wide (flat (run_pairs r (numbers_in (width_of x) t) (words_in z)))) (sym short)
      in
      λ k. record { bytes = n k; wide = w k }

  pub common_all : run_pairs r (numbers_in (width_of r.long) t) (words_in z) ≡ equal_length_pairs r.bytes (words_in t)
  common_all = ap (λ (x : Bool). run_pairs r (numbers_in (width_of x) t) (words_in z)) short ∙ common_pairs r common (words_in t) (words_in z)
