-- The pairs of some samples: chunks before the first sample's and from the last sample's end on have none, and the lengths add up to the samples' sizes.
-- Assumes nothing.
use Prim.Native.Nat.{ℕ, suc, ◌+◌, ◌*◌, ◌-◌, ◌≤◌, ◌<◌, min, max}
use mathlib.Core.Path.{◌≡◌, refl, sym, ap, ◌∙◌}
use mathlib.Core.Bool.{Bool, true, false, cond}
use mathlib.Core.List.{List, [], ◌∷◌}
use native.Mathlib.Omega.{arith}
use native.Mathlib.Decide.{dec_lt, dec_le}
use borrow.Author.Tests.{lt-ltb, le-ltb, ltb-false}
use lib.ListN.{length, get_or, take, drop}
use lib.Seq.{drop-drop}
use lib.Dec.{ltb}
use Rattle.lists.specs.Lists.{sum, before, between, holder}
use Rattle.lists.proofs.Laws.{holder_hit, holder_miss}
use Rattle.lists.proofs.Places.{between_split}
use Rattle.lists.proofs.Booleans.{and_false}
use Rattle.chunks.specs.Chunks.{end_within}
use Rattle.leb128.specs.Numbers.{Below}
use Rattle.pairs.specs.Pairs.{is_touched, pair_of, touched, flat}
use Rattle.pairs.specs.Walks.{lengths_of, Fitting}
use Rattle.pairs.specs.declared.Pair.{Pair}

-- ---- which chunks are touched

pub is-touched : (i j begin p : ℕ) → begin < j → i < begin + p → is_touched i j begin p ≡ true
is-touched i j begin p h g = rw (lt-ltb begin j h, lt-ltb i (begin + p) g)

pub past_last : (i j begin p : ℕ) → j ≤ begin → is_touched i j begin p ≡ false
past_last i j begin p h = rw (le-ltb begin j h)

pub before_first : (i j begin p : ℕ) → begin + p ≤ i → is_touched i j begin p ≡ false
before_first i j begin p h = rw (le-ltb i (begin + p) h) (and_false (ltb begin j))

-- no chunk that begins at the end or later
pub touched_none : (i j begin : ℕ) (ps cs zs : List ℕ) → j ≤ begin → touched i j begin ps cs zs ≡ []
touched_none i j begin [] cs zs h = refl
touched_none i j begin (p ∷ ps) cs zs h = rw (past_last i j begin p h) (touched_none i j (begin + p) ps (drop 1 cs) zs (omega arith))

-- the chunks before the first sample's may be left out
pub touched_skip : (i j begin : ℕ) (ps cs zs : List ℕ) → begin ≤ i
    → touched i j begin ps cs zs
    ≡ touched i j (begin + before ps (holder ps (i - begin))) (drop (holder ps (i - begin)) ps) (drop (holder ps (i - begin)) cs) zs
touched_skip i j begin [] cs zs h = refl
touched_skip i j begin (p ∷ ps) cs zs h = elim (dec_lt (i - begin) p) [
  | yes l ↦
      let e : begin ≡ begin + 0 = omega arith in
      rw (holder_hit p ps (i - begin) l) (ap (λ b. touched i j b (p ∷ ps) cs zs) e)
  | no l ↦
      let g : p ≤ i - begin = omega arith in
      let f : begin + p ≤ i = omega arith in
      let k : i - begin - p ≡ i - (begin + p) = omega arith in
      let q = touched_skip i j (begin + p) ps (drop 1 cs) zs f in
      let n = holder ps (i - (begin + p)) in
      let o : 1 + n ≡ suc n = omega arith in
      let d : drop n (drop 1 cs) ≡ drop (suc n) cs = drop-drop n 1 cs ∙ ap (λ (m : ℕ). drop m cs) o in
      let s : begin + p + before ps n ≡ begin + (p + before ps n) = omega arith in
      rw (holder_miss p ps (i - begin) g, k, before_first i j begin p f) (q ∙ rw (d, s))
]

-- how many there are does not hang on offsets and sizes
pub touched_count : (i j begin : ℕ) (ps cs zs ds ys : List ℕ) → length (touched i j begin ps cs zs) ≡ length (touched i j begin ps ds ys)
touched_count i j begin [] cs zs ds ys = refl
touched_count i j begin (p ∷ ps) cs zs ds ys = go (is_touched i j begin p) (touched_count i j (begin + p) ps (drop 1 cs) zs (drop 1 ds) ys)
  where
    go : (b : Bool) → length (touched i j (begin + p) ps (drop 1 cs) zs) ≡ length (touched i j (begin + p) ps (drop 1 ds) ys)
        → length (cond b (pair_of i j begin p (get_or cs 0 0) zs ∷ touched i j (begin + p) ps (drop 1 cs) zs) (touched i j (begin + p) ps (drop 1 cs) zs))
        ≡ length (cond b (pair_of i j begin p (get_or ds 0 0) ys ∷ touched i j (begin + p) ps (drop 1 ds) ys) (touched i j (begin + p) ps (drop 1 ds) ys))
    go true e = ap suc e
    go false e = e

-- ---- how many, and how long

pub touched_few : (i j begin : ℕ) (ps cs zs : List ℕ) → length (touched i j begin ps cs zs) ≤ length ps
touched_few i j begin [] cs zs = omega arith
touched_few i j begin (p ∷ ps) cs zs = go (is_touched i j begin p) (touched_few i j (begin + p) ps (drop 1 cs) zs)
  where
    go : (b : Bool) → length (touched i j (begin + p) ps (drop 1 cs) zs) ≤ length ps
        → length (cond b (pair_of i j begin p (get_or cs 0 0) zs ∷ touched i j (begin + p) ps (drop 1 cs) zs) (touched i j (begin + p) ps (drop 1 cs) zs)) ≤ suc (length ps)
    go true h = omega arith
    go false h = omega arith

pub none_between : (zs : List ℕ) (i j : ℕ) → j ≤ i → between zs i j ≡ 0
none_between zs i j h = let e : j - i ≡ 0 = omega arith in rw e

-- the lengths are the sizes of the samples, added, where the chunks have them all
pub touched_sum : (i j begin : ℕ) (ps cs zs : List ℕ) → i ≤ j → j ≤ begin + sum ps → begin ≤ j → sum (lengths_of (touched i j begin ps cs zs)) ≡ between zs (max i begin) j
unfolding pair_of
touched_sum i j begin [] cs zs h g f =
    let e : max i begin ≡ j = omega arith in
    rw e (sym (none_between zs j j (omega arith)))
touched_sum i j begin (p ∷ ps) cs zs h g f = elim (dec_lt begin j) [
  | no l ↦
      let e : max i begin ≡ j = omega arith in
      rw (touched_none i j begin (p ∷ ps) cs zs (omega arith), e) (sym (none_between zs j j (omega arith)))
  | yes l ↦ elim (dec_lt i (begin + p)) [
    | no m ↦
        let e : max i (begin + p) ≡ max i begin = omega arith in
        rw (before_first i j begin p (omega arith)) (touched_sum i j (begin + p) ps (drop 1 cs) zs h (omega arith) (omega arith) ∙ rw e)
    | yes m ↦ elim (dec_le j (begin + p)) [
      | yes n ↦
          let e : min j (begin + p) ≡ j = omega arith in
          rw (is-touched i j begin p l m, touched_none i j (begin + p) ps (drop 1 cs) zs n, e) (omega arith)
      | no n ↦
          let e : min j (begin + p) ≡ begin + p = omega arith in
          let d : max i (begin + p) ≡ begin + p = omega arith in
          let r = touched_sum i j (begin + p) ps (drop 1 cs) zs h (omega arith) (omega arith) in
          rw (is-touched i j begin p l m, e) (omega (arith, rw d at r, between_split zs (max i begin) (begin + p) j (omega arith) (omega arith)))
    ]
  ]
]

-- ---- each pair lies within the limit of its chunk

pub chunk_sum : (zs : List ℕ) (begin p : ℕ) → between zs begin (begin + p) ≡ sum (take p (drop begin zs))
chunk_sum zs begin p = let e : begin + p - begin ≡ p = omega arith in ap (λ (k : ℕ). sum (take k (drop begin zs))) e

within_chunk : (i j begin p c : ℕ) (zs : List ℕ) → i ≤ j → begin < j → i < begin + p → (pair_of i j begin p c zs).offset + (pair_of i j begin p c zs).length ≤ c + sum (take p (drop begin zs))
unfolding pair_of
within_chunk i j begin p c zs o h g =
    omega (
      arith,
      chunk_sum zs begin p,
      between_split zs begin (max i begin) (begin + p) (omega arith) (omega arith),
      between_split zs (max i begin) (min j (begin + p)) (begin + p) (omega arith) (omega arith),
    )

pub touched_fits : {b : ℕ} (limit i j begin : ℕ) (ps cs zs : List ℕ) → i ≤ j → limit < b → end_within limit ps cs (drop begin zs) ≡ true → Fitting b (touched i j begin ps cs zs)
touched_fits limit i j begin [] cs zs o l e = tt
touched_fits {b} limit i j begin (p ∷ ps) cs zs o l e = go (ltb limit (get_or cs 0 0 + sum (take p (drop begin zs)))) refl e (λ h. touched_fits limit i j (begin + p) ps (drop 1 cs) zs o l (rw (drop-drop p begin zs) at h))
  where
    go : (y : Bool) → ltb limit (get_or cs 0 0 + sum (take p (drop begin zs))) ≡ y → cond y false (end_within limit ps (drop 1 cs) (drop p (drop begin zs))) ≡ true
        → (end_within limit ps (drop 1 cs) (drop p (drop begin zs)) ≡ true → Fitting b (touched i j (begin + p) ps (drop 1 cs) zs))
        → Fitting b (touched i j begin (p ∷ ps) cs zs)
    go true q h k = let y : ◌≡◌ {A = Bool} false true = h in let z : ◌≡◌ {A = ℕ} 0 1 = cc in absurd (omega arith)
    go false q h k = elim (dec_lt begin j) [
      | no n ↦ rw (past_last i j begin p (omega arith)) (k h)
      | yes n ↦ elim (dec_lt i (begin + p)) [
        | no m ↦ rw (before_first i j begin p (omega arith)) (k h)
        | yes m ↦
            let f = ltb-false limit (get_or cs 0 0 + sum (take p (drop begin zs))) q in
            let w = within_chunk i j begin p (get_or cs 0 0) zs o n m in
            rw (is-touched i j begin p n m) (omega arith, omega arith, k h)
      ]
    ]

pub fits_sum : (l : List Pair) → Fitting 4294967296 l → sum (lengths_of l) ≤ length l * 4294967295
fits_sum [] f = omega arith
fits_sum (q ∷ l) f = omega (arith, f.1, fits_sum l f.2)

-- sample i lies in one of the chunks
pub some_touched : (i j begin : ℕ) (ps cs zs : List ℕ) → i < j → begin ≤ i → i < begin + sum ps → 0 < length (touched i j begin ps cs zs)
some_touched i j begin [] cs zs o l h = absurd (omega arith)
some_touched i j begin (p ∷ ps) cs zs o l h = elim (dec_lt i (begin + p)) [
  | yes k ↦ rw (is-touched i j begin p (omega arith) k) (omega arith)
  | no k ↦ rw (before_first i j begin p (omega arith)) (some_touched i j (begin + p) ps (drop 1 cs) zs o (omega arith) (omega arith))
]

-- their numbers, one after the other, are below the bound each
pub fits_below : (b : ℕ) (l : List Pair) → Fitting b l → Below b (flat l)
fits_below b [] f = tt
fits_below b (q ∷ l) f = (f.0, (f.1, fits_below b l f.2))
