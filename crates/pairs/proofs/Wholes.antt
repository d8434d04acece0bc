-- Whole chunks of a run: the pairs of several chunks at once are those of one after the other, and lead to the place past them.
-- Assumes nothing.
use Prim.Native.Nat.{ℕ, zero, suc, ◌+◌, ◌*◌, ◌-◌, ◌/◌, ◌^◌, ◌≤◌, ◌<◌, min, max}
use mathlib.Core.Path.{◌≡◌, refl, sym, ap, ◌∙◌}
use mathlib.Core.Bool.{Bool, true, false, cond}
use mathlib.Core.List.{List, [], ◌∷◌, ◌++◌}
use native.Mathlib.Nat.{suc-mul, zero-mul, add-mul, div-add-mod', div-lt_iff_lt-mul, le-div_iff_mul-le}
use native.Mathlib.Omega.{arith}
use native.Mathlib.Decide.{ℕ_discrete}
use borrow.Author.Tests.{eq-eqb, ne_eqb, eqb-true, eqb-false, lt-ltb, le-ltb}
use lib.ListN.{length, get_or, take, drop, replicate, length-drop}
use lib.Seq.{length-take-le, drop-drop}
use lib.Dec.{eqb, ltb}
use Rattle.bigendian.specs.BigEndian.{be_at, u32_at}
use Rattle.atoms.specs.Atoms.{kind_of}
use Rattle.atoms.specs.Kinds.{co64}
use Rattle.lists.specs.Lists.{sum, between}
use Rattle.lists.proofs.Laws.{sum_replicate, pos_of_lt_mul, replicate_drop, replicate_take}
use Rattle.words.specs.Words.{numbers_in, words_in, sizes, width_of, offset_width, chunk_offsets}
use Rattle.words.proofs.Turns.{offsets_in, width_is, width_above, width_positive, numbers_none, numbers_next, length_numbers, numbers_drop, numbers_take, words_drop, sizes_listed, sizes_common}
use Rattle.pairs.specs.Pairs.{pair_of, touched}
use Rattle.pairs.specs.Walks.{wholes, equal_length_pairs, first_pair, run_pairs, run_at, AtOnce, wholes_at, pairs_at_once, whole_end, whole_chunks, all_or_one, chunks_at_once}
use Rattle.pairs.specs.declared.Pair.{Pair}
use Rattle.pairs.specs.declared.ChunkPosition.{ChunkPosition}
use Rattle.pairs.specs.declared.WholeRun.{WholeRun}
use Rattle.pairs.proofs.Touched.{is-touched, none_between, chunk_sum}

add_cancel : (a b : ℕ) → a + b - a ≡ b
add_cancel a b = omega arith

-- ---- a run's chunks, as they are touched

pub whole_pair : (i j begin p c : ℕ) (zs : List ℕ) → i ≤ begin → begin + p ≤ j → pair_of i j begin p c zs ≡ record { offset = c; length = sum (take p (drop begin zs)) }
unfolding pair_of
whole_pair i j begin p c zs h g =
    let e : max i begin ≡ begin = omega arith in
    let d : min j (begin + p) ≡ begin + p = omega arith in
    let o : c + between zs begin (max i begin) ≡ c = omega (arith, none_between zs begin (max i begin) (omega arith)) in
    let l : between zs (max i begin) (min j (begin + p)) ≡ sum (take p (drop begin zs)) = rw (e, d) (chunk_sum zs begin p) in
    λ k. record { offset = o k; length = l k }

pub whole_touched : (i j begin n p : ℕ) (rest cs zs : List ℕ) → i ≤ begin → i < begin + p → (0 < n → begin < j) → begin + n * p ≤ j → n ≤ length cs
    → touched i j begin (replicate n p ++ rest) cs zs ≡ wholes p (take n cs) (drop begin zs) ++ touched i j (begin + n * p) rest (drop n cs) zs
whole_touched i j begin zero p rest cs zs h g f k l = let e : begin ≡ begin + 0 * p = omega (arith, zero-mul p) in ap (λ b. touched i j b rest cs zs) e
whole_touched i j begin (suc n) p rest [] zs h g f k l = absurd (omega arith)
whole_touched i j begin (suc n) p rest (c ∷ cs) zs h g f k l =
    let low : begin < j = f (omega arith) in
    let m : begin + p + n * p ≤ j = omega (arith, suc-mul n p) in
    let o : begin + p + n * p ≡ begin + suc n * p = omega (arith, suc-mul n p) in
    let more : 0 < n → begin + p < j = λ q. further n q m in
    let t : begin + p ≤ j = omega arith in
    let w = whole_touched i j (begin + p) n p rest cs zs (omega arith) (omega arith) more m (omega arith) in
    rw (is-touched i j begin p low g, whole_pair i j begin p c zs h t, drop-drop p begin zs, ← o) (ap (λ r. record { offset = c; length = sum (take p (drop begin zs)) } ∷ r) w)
  where
    further : (k : ℕ) → 0 < k → begin + p + k * p ≤ j → begin + p < j
    further zero q m = absurd (omega arith)
    further (suc k) q m = let low : begin < j = f (omega arith) in omega (arith, suc-mul k p)

-- ---- how many lie before an end

pub before_end : (count per samples : ℕ) → count ≤ 4294967295 → samples < count * per → (samples / per ≤ count) × (samples / per < 2 ^ 32) × (samples / per * per ≤ samples)
before_end count per samples h g =
    let q : samples / per < count = (div-lt_iff_lt-mul {y = count} (pos_of_lt_mul count per samples g)).1 g in
    (omega arith, omega arith, omega (arith, div-add-mod' samples per))

pub offsets_there : (offsets : List ℕ) {part : List ℕ} {w : ℕ} → part ≡ drop 16 offsets → w ≡ offset_width offsets → length part / w ≡ length (chunk_offsets offsets)
offsets_there offsets {part} {w} e f =
    ap (λ l. length l / w) e ∙ ap (λ (k : ℕ). length (drop 16 offsets) / k) f ∙ sym (ap length (offsets_in offsets) ∙ length_numbers (offset_width offsets) (width_positive offsets) (drop 16 offsets))

pub one_at_once : (stsz offsets : List ℕ) (i j : ℕ) (p : ChunkPosition) → (p.cursor.remaining ≡ 0 → ⊥) → AtOnce stsz offsets i j p 1
one_at_once stsz offsets i j p h = record { some = omega arith; few = omega arith; whole = λ z. absurd (z refl) }

-- how many are put at once, where more than one is left of the run and the first is asked for from its start
module _ (stsz offsets : List ℕ) (i j : ℕ) (p : ChunkPosition) (a : p.cursor.remaining ≡ 1 → ⊥) (b : i ≤ p.begin) (end n there : ℕ)
    (f : end ≡ whole_end stsz j) (g : n ≡ whole_chunks p.cursor.remaining p.cursor.per p.begin end) where
  at_once_by : all_or_one n (length (chunk_offsets offsets)) p.chunk ≡ chunks_at_once stsz offsets i j p
  unfolding chunks_at_once
  at_once_by =
      rw (ne_eqb _ 1 a, le-ltb _ _ b)
      (ap (λ m. all_or_one m (length (chunk_offsets offsets)) p.chunk) (g ∙ ap (whole_chunks p.cursor.remaining p.cursor.per p.begin) f))

  pub one_of_none : n ≡ 0 → 1 ≡ chunks_at_once stsz offsets i j p
  one_of_none z = rw (eq-eqb n 0 z) at at_once_by

  module _ (z : n ≡ 0 → ⊥) (t : there ≡ length (chunk_offsets offsets)) where
    pub one_of_few : there < p.chunk + n → 1 ≡ chunks_at_once stsz offsets i j p
    one_of_few h = rw (ne_eqb n 0 z, lt-ltb (length (chunk_offsets offsets)) (p.chunk + n) (omega arith)) at at_once_by

    pub all_of_these : p.chunk + n ≤ there → n ≡ chunks_at_once stsz offsets i j p
    all_of_these h = rw (ne_eqb n 0 z, le-ltb (length (chunk_offsets offsets)) (p.chunk + n) (omega arith)) at at_once_by

-- ---- the tables that a loop over whole chunks is given

pub wholes_length : (p : ℕ) (cs zs : List ℕ) → length (wholes p cs zs) ≡ length cs
wholes_length p [] zs = refl
wholes_length p (c ∷ cs) zs = ap suc (wholes_length p cs (drop p zs))

-- the offsets of n chunks, cut out of a table
module _ (offsets : List ℕ) {part : List ℕ} {w : ℕ} (k n : ℕ) (e : part ≡ drop 16 offsets) (f : w ≡ offset_width offsets) where
  pub offsets_cut : numbers_in (offset_width offsets) (take (k * w + n * w - k * w) (drop (k * w) part)) ≡ take n (drop k (chunk_offsets offsets))
  offsets_cut =
      let v = offset_width offsets in
      let p = width_positive offsets in
      let d : k * w + n * w - k * w ≡ n * v = ap (λ (x : ℕ). k * x + n * x - k * x) f ∙ add_cancel (k * v) (n * v) in
      ap (λ (m : ℕ). numbers_in v (take m (drop (k * w) part))) d
      ∙ numbers_take v p n (drop (k * w) part)
      ∙ ap (λ (x : ℕ). take n (numbers_in v (drop (k * x) part))) f
      ∙ ap (take n) (numbers_drop v p k part ∙ ap (λ l. drop k (numbers_in v l)) e ∙ ap (drop k) (sym (offsets_in offsets)))

  module _ (h : k + n ≤ length (chunk_offsets offsets)) where
    pub cut_within : k * w + n * w ≤ length part
    cut_within =
        let g : (k + n) * w ≤ length part = (le-div_iff_mul-le {k = w} {x = k + n} {y = length part} (rw f (width_positive offsets))).0 (omega (arith, offsets_there offsets e f)) in
        omega (arith, add-mul k n w)

    pub cut_fits : k * w + n * w ≤ length offsets
    cut_fits = omega (arith, cut_within, ap length e, length-drop 16 offsets)

module _ (stsz : List ℕ) {each : ℕ} (e : each ≡ u32_at stsz 12) where
  pub sizes_cut : each ≡ 0 → {y z : List ℕ} (k : ℕ) → y ≡ drop 20 stsz → z ≡ drop (k * 4) y → words_in z ≡ drop k (sizes stsz)
  sizes_cut o {y} k f g = ap words_in g ∙ words_drop k y ∙ ap (λ l. drop k (words_in l)) f ∙ ap (drop k) (sym (sizes_listed stsz e o))

  -- of a common size each chunk has as many bytes
  pub wholes_common : (each ≡ 0 → ⊥) → (begin per : ℕ) (cs : List ℕ) → begin + length cs * per ≤ u32_at stsz 16 → wholes per cs (drop begin (sizes stsz)) ≡ equal_length_pairs (per * each) cs
  wholes_common o begin per cs h =
      ap (λ l. wholes per cs (drop begin l)) (sizes_common stsz e o)
      ∙ ap (wholes per cs) (replicate_drop (u32_at stsz 16) each begin (omega arith))
      ∙ go (u32_at stsz 16 - begin) cs (omega arith)
    where
      go : (m : ℕ) (l : List ℕ) → length l * per ≤ m → wholes per l (replicate m each) ≡ equal_length_pairs (per * each) l
      go m [] k = refl
      go m (c ∷ l) k =
          let a : per ≤ m = omega (arith, suc-mul (length l) per) in
          let b : length l * per ≤ m - per = omega (arith, suc-mul (length l) per) in
          rw (replicate_take m each per a, replicate_drop m each per a, sum_replicate per each) (ap (λ r. record { offset = c; length = per * each } ∷ r) (go (m - per) l b))

-- ---- by what the chunks have in common

-- the length of a chunk's pair, by whether the sizes are listed
by_listed : (r : WholeRun) (b : Bool) → r.listed ≡ b → (zs : List ℕ) → cond r.listed (sum (take r.per zs)) r.bytes ≡ cond b (sum (take r.per zs)) r.bytes
by_listed r b e zs = ap (λ (x : Bool). cond x (sum (take r.per zs)) r.bytes) e

run_listed : (r : WholeRun) → r.listed ≡ true → (cs zs : List ℕ) → run_pairs r cs zs ≡ wholes r.per cs zs
run_listed r e [] zs = refl
run_listed r e (c ∷ cs) zs = λ k. record { offset = c; length = by_listed r true e zs k } ∷ run_listed r e cs (drop r.per zs) k

run_common : (r : WholeRun) → r.listed ≡ false → (cs zs : List ℕ) → run_pairs r cs zs ≡ equal_length_pairs r.bytes cs
run_common r e [] zs = refl
run_common r e (c ∷ cs) zs = λ k. record { offset = c; length = by_listed r false e zs k } ∷ run_common r e cs (drop r.per zs) k

-- as they are made
pub run_made : (stsz offsets : List ℕ) (p : ChunkPosition) (long : Bool) (each : ℕ) → long ≡ eqb (kind_of offsets) co64 → each ≡ u32_at stsz 12
    → ◌≡◌ {A = WholeRun} (record { long = long; listed = eqb each 0; per = p.cursor.per; bytes = p.cursor.per * each }) (run_at stsz offsets p)
run_made stsz offsets p long each e f = λ k. record { long = e k; listed = eqb (f k) 0; per = p.cursor.per; bytes = p.cursor.per * f k }

pub first_made : (r : WholeRun) (b : Bool) (cs zs : List ℕ) (o n : ℕ) → r.listed ≡ b → o ≡ get_or cs 0 0 → n ≡ cond b (sum (take r.per zs)) r.bytes → ◌≡◌ {A = Pair} (record { offset = o; length = n }) (first_pair r cs zs)
first_made r b cs zs o n e f g = λ k. record { offset = f k; length = (g ∙ sym (by_listed r b e zs)) k }

-- as it is given for n chunks from a place on
module _ (stsz offsets : List ℕ) (p : ChunkPosition) (n : ℕ) (h : p.chunk + n ≤ length (chunk_offsets offsets)) (g : (u32_at stsz 12 ≡ 0 → ⊥) → p.begin + n * p.cursor.per ≤ u32_at stsz 16) where
  abbrev these : List ℕ
  these = take n (drop p.chunk (chunk_offsets offsets))

  many : length these ≡ n
  many = length-take-le n (drop p.chunk (chunk_offsets offsets)) (omega (arith, length-drop p.chunk (chunk_offsets offsets)))

  here : (z : List ℕ) → z ≡ drop (p.begin * 4) (drop 20 stsz) → (b : Bool) → eqb (u32_at stsz 12) 0 ≡ b → run_pairs (run_at stsz offsets p) these (words_in z) ≡ wholes_at stsz offsets p n
  here z f true q = run_listed (run_at stsz offsets p) q these (words_in z) ∙ ap (wholes p.cursor.per these) (sizes_cut stsz refl (eqb-true _ _ q) p.begin refl f)
  here z f false q =
      let y : u32_at stsz 12 ≡ 0 → ⊥ = eqb-false _ _ q in
      run_common (run_at stsz offsets p) q these (words_in z) ∙ sym (wholes_common stsz refl y p.begin p.cursor.per these (rw many (g y)))

  pub run_given : (o z : List ℕ) (r : WholeRun) → numbers_in (offset_width offsets) o ≡ take n (drop p.chunk (chunk_offsets offsets)) → z ≡ drop (p.begin * 4) (drop 20 stsz) → r ≡ run_at stsz offsets p
      → run_pairs r (numbers_in (width_of r.long) o) (words_in z) ≡ wholes_at stsz offsets p n
  run_given o z r e f d =
      let w : width_of r.long ≡ offset_width offsets = sym (width_is offsets (ap (λ (x : WholeRun). x.long) d)) in
      ap (λ (k : ℕ). run_pairs r (numbers_in k o) (words_in z)) w ∙ ap (λ l. run_pairs r l (words_in z)) e ∙ ap (λ (x : WholeRun). run_pairs x these (words_in z)) d ∙ here z f (eqb (u32_at stsz 12) 0) refl

  -- with a common size
  pub equal_given : (o : List ℕ) (r : WholeRun) → (u32_at stsz 12 ≡ 0 → ⊥) → numbers_in (offset_width offsets) o ≡ take n (drop p.chunk (chunk_offsets offsets)) → r ≡ run_at stsz offsets p
      → equal_length_pairs r.bytes (numbers_in (width_of r.long) o) ≡ wholes_at stsz offsets p n
  equal_given o r y e d =
      let w : width_of r.long ≡ offset_width offsets = sym (width_is offsets (ap (λ (x : WholeRun). x.long) d)) in
      ap (λ (k : ℕ). equal_length_pairs r.bytes (numbers_in k o)) w
      ∙ ap (equal_length_pairs r.bytes) e
      ∙ ap (λ (x : WholeRun). equal_length_pairs x.bytes these) d
      ∙ sym (wholes_common stsz refl y p.begin p.cursor.per these (rw many (g y)))

-- ---- one chunk, or whole ones

module _ (stsz offsets : List ℕ) (i j : ℕ) (p : ChunkPosition) (n : ℕ) where
  pub at_once_one : n ≡ 1 → {q : Pair} → q ≡ pair_of i j p.begin p.cursor.per (get_or (chunk_offsets offsets) p.chunk 0) (sizes stsz) → pairs_at_once stsz offsets i j p n ≡ q ∷ []
  at_once_one z e = rw (eq-eqb n 1 z, e)

  pub at_once_whole : (n ≡ 1 → ⊥) → pairs_at_once stsz offsets i j p n ≡ wholes_at stsz offsets p n
  at_once_whole z = rw (ne_eqb n 1 z)

  pub at_once_length : AtOnce stsz offsets i j p n → length (pairs_at_once stsz offsets i j p n) ≡ n
  at_once_length o = elim (ℕ_discrete n 1) [
    | yes z ↦ ap length (at_once_one z refl) ∙ sym z
    | no z ↦
        let cs = drop p.chunk (chunk_offsets offsets) in
        ap length (at_once_whole z) ∙ wholes_length p.cursor.per (take n cs) (drop p.begin (sizes stsz)) ∙ length-take-le n cs (omega (arith, (o.whole z).there, length-drop p.chunk (chunk_offsets offsets)))
  ]

-- ---- a turn of a loop over them

module _ (r : WholeRun) (t z : List ℕ) where
  pub run_next : {q : Pair} {w : ℕ} {y : List ℕ} → q ≡ first_pair r (numbers_in (width_of r.long) t) (words_in z) → w ≡ width_of r.long → w ≤ length t → y ≡ drop (r.per * 4) z
      → run_pairs r (numbers_in (width_of r.long) t) (words_in z) ≡ q ∷ run_pairs r (numbers_in (width_of r.long) (drop w t)) (words_in y)
  run_next {q} {w} {y} e f h g =
      let v = width_of r.long in
      let n : numbers_in v t ≡ be_at v t 0 ∷ numbers_in v (drop v t) = numbers_next v (width_above r.long) t (rw (← f) h) in
      let k : first_pair r (numbers_in v t) (words_in z) ≡ q = sym e in
      ap (λ l. run_pairs r l (words_in z)) n
      ∙ ap (λ x. x ∷ run_pairs r (numbers_in v (drop v t)) (drop r.per (words_in z))) (ap (λ l. first_pair r l (words_in z)) (sym n) ∙ k)
      ∙ ap (λ l. q ∷ run_pairs r (numbers_in v (drop v t)) l) (sym (words_drop r.per z) ∙ ap words_in (sym g))
      ∙ ap (λ (x : ℕ). q ∷ run_pairs r (numbers_in v (drop x t)) (words_in y)) (sym f)

  pub run_end : {w : ℕ} → w ≡ width_of r.long → length t < w → run_pairs r (numbers_in (width_of r.long) t) (words_in z) ≡ []
  run_end f h = ap (λ l. run_pairs r l (words_in z)) (numbers_none (width_of r.long) (width_above r.long) t (rw f at h))

-- ---- a turn of a loop over chunks that have as many bytes each, two a turn

two_first : (cs : List ℕ) → 2 ≤ length cs → cs ≡ get_or cs 0 0 ∷ get_or cs 1 0 ∷ drop 2 cs
two_first [] h = absurd (omega arith)
two_first (c ∷ []) h = absurd (omega arith)
two_first (c ∷ (d ∷ cs)) h = refl

one_only : (cs : List ℕ) → 1 ≤ length cs → length cs < 2 → cs ≡ get_or cs 0 0 ∷ []
one_only [] h g = absurd (omega arith)
one_only (c ∷ []) h g = refl
one_only (c ∷ (d ∷ cs)) h g = absurd (omega arith)

pub step_small : (long : Bool) {width : ℕ} → width ≡ width_of long → 2 * width < 2 ^ 64
step_small true f = omega arith
step_small false f = omega arith

module _ (bytes : ℕ) (long : Bool) (t : List ℕ) {width step : ℕ} (f : width ≡ width_of long) (g : step ≡ 2 * width) where
  there : length (numbers_in (width_of long) t) ≡ length t / width
  there = length_numbers (width_of long) (width_above long) t ∙ ap (λ (k : ℕ). length t / k) (sym f)

  above : 0 < width
  above = rw f (width_above long)

  pub equal_two : step ≤ length t → {x y : ℕ} → x ≡ get_or (numbers_in (width_of long) t) 0 0 → y ≡ get_or (numbers_in (width_of long) t) 1 0
      → equal_length_pairs bytes (numbers_in (width_of long) t) ≡ record { offset = x; length = bytes } ∷ record { offset = y; length = bytes } ∷ equal_length_pairs bytes (numbers_in (width_of long) (drop step t))
  equal_two h a b =
      let n : 2 ≤ length t / width = (le-div_iff_mul-le {k = width} {x = 2} {y = length t} above).1 (omega arith) in
      let d : numbers_in (width_of long) (drop step t) ≡ drop 2 (numbers_in (width_of long) t) = rw (g, f) (numbers_drop (width_of long) (width_above long) 2 t) in
      ap (equal_length_pairs bytes) (two_first (numbers_in (width_of long) t) (omega (arith, there)))
      ∙ (λ k. record { offset = sym a k; length = bytes } ∷ record { offset = sym b k; length = bytes } ∷ equal_length_pairs bytes (sym d k))

  pub equal_one : width ≤ length t → length t < step → {x : ℕ} → x ≡ get_or (numbers_in (width_of long) t) 0 0 → equal_length_pairs bytes (numbers_in (width_of long) t) ≡ record { offset = x; length = bytes } ∷ []
  equal_one h l a =
      let n : 1 ≤ length t / width = (le-div_iff_mul-le {k = width} {x = 1} {y = length t} above).1 (omega arith) in
      let m : length t / width < 2 = (div-lt_iff_lt-mul {y = 2} above).1 (omega arith) in
      ap (equal_length_pairs bytes) (one_only (numbers_in (width_of long) t) (omega (arith, there)) (omega (arith, there))) ∙ (λ k. record { offset = sym a k; length = bytes } ∷ [])

  pub equal_none : length t < width → equal_length_pairs bytes (numbers_in (width_of long) t) ≡ []
  equal_none h = ap (equal_length_pairs bytes) (numbers_none (width_of long) (width_above long) t (rw f at h))
