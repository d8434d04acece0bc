-- The pairs of some samples are numbers of 64 bits where the first one is: no other offset is a sum.
-- Assumes nothing.
use Prim.Native.Nat.{ℕ, ◌+◌, ◌*◌, ◌-◌, ◌^◌, ◌≤◌, ◌<◌, min, max}
use mathlib.Core.Path.{◌≡◌, refl, sym, ap, ◌∙◌}
use mathlib.Core.Bool.{Bool, true, false, ◌&&◌, ◌||◌}
use mathlib.Core.List.{List, [], ◌∷◌}
use native.Mathlib.Omega.{arith}
use native.Mathlib.Decide.{dec_lt, dec_le}
use borrow.Author.Tests.{lt-ltb, le-ltb, le-leb, lt-leb, ltb-true}
use lib.Dec.{eqb, ltb, leb}
use lib.ListN.{length, get_or, drop}
use lib.Seq.{get_or-drop}
use Rattle.atoms.specs.Atoms.{kind_of}
use Rattle.atoms.specs.Kinds.{co64}
use Rattle.lists.specs.Lists.{sum, before, between}
use Rattle.lists.proofs.Booleans.{and_both}
use Rattle.lists.proofs.Places.{between_split}
use Rattle.words.specs.Words.{sizes, chunk_offsets}
use Rattle.chunks.specs.Chunks.{per_chunk}
use Rattle.chunks.specs.Cursors.{ahead}
use Rattle.chunks.proofs.Finding.{before_holder}
use Rattle.pairs.specs.Pairs.{pair_of, touched}
use Rattle.pairs.specs.Walks.{pairs_between, pairs_ahead, lengths_of, Fitting, Putting, StartsAt, place_after}
use Rattle.pairs.specs.declared.Pair.{Pair}
use Rattle.pairs.specs.declared.ChunkPosition.{ChunkPosition}
use Rattle.pairs.proofs.Touched.{is-touched, past_last, before_first, touched_none, none_between}
use Rattle.pairs.proofs.Walking.{at_end, at_next, some_remain, from_start}
use Rattle.pair_checks.specs.Fits.{all_fit, pairs_fit, start_fits}
use Rattle.pair_checks.proofs.Bytes.{between_low, offset_low, narrow_low}

-- ---- the test, and what is asked where pairs are put

pub all_fitting : (b : ℕ) (qs : List Pair) → all_fit b qs ≡ true → Fitting b qs
all_fitting b [] e = tt
all_fitting b (q ∷ qs) e =
    let f = and_both (ltb q.offset b) _ e in
    let g = and_both (ltb q.length b) _ f.1 in
    (ltb-true _ _ f.0, ltb-true _ _ g.0, all_fitting b qs g.1)

pub fitting_all : (b : ℕ) (qs : List Pair) → Fitting b qs → all_fit b qs ≡ true
fitting_all b [] f = refl
fitting_all b (q ∷ qs) f = rw (lt-ltb q.offset b f.0, lt-ltb q.length b f.1) (fitting_all b qs f.2)

-- ---- chunk after chunk

module _ (b i j : ℕ) (zs : List ℕ) (low : (k n : ℕ) → n ≤ j → between zs k n < b) where
  length_fits : (begin p c : ℕ) → (pair_of i j begin p c zs).length < b
  unfolding pair_of
  length_fits begin p c = low (max i begin) (min j (begin + p)) (omega arith)

  -- where an offset below the limit fits in each chunk from a sample on
  each_fits : (limit first : ℕ) → ((begin p c : ℕ) → first ≤ begin → begin < j → c < limit → (pair_of i j begin p c zs).offset < b) → (begin : ℕ) (ps cs : List ℕ) → first ≤ begin
      → ((k : ℕ) → get_or cs k 0 < limit) → Fitting b (touched i j begin ps cs zs)
  each_fits limit first f begin [] cs h g = tt
  each_fits limit first f begin (p ∷ ps) cs h g =
      let r = each_fits limit first f (begin + p) ps (drop 1 cs) (omega arith) (λ k. let d = get_or-drop 1 cs k 0 in omega (arith, g (1 + k))) in
      elim (dec_lt begin j) [
        | no n ↦ rw (past_last i j begin p (omega arith)) r
        | yes n ↦ elim (dec_lt i (begin + p)) [
          | no m ↦ rw (before_first i j begin p (omega arith)) r
          | yes m ↦ rw (is-touched i j begin p n m) (f begin p (get_or cs 0 0) h n (g 0), length_fits begin p (get_or cs 0 0), r)
        ]
      ]

  -- a chunk from the sample i on is asked for from its first sample on
  whole_fits : (begin p c : ℕ) → i ≤ begin → begin < j → c < b → (pair_of i j begin p c zs).offset < b
  unfolding pair_of
  whole_fits begin p c h n g = let e : max i begin ≡ begin = omega arith in rw e (omega (arith, none_between zs begin begin (omega arith)))

-- an offset of 32 bits, and sizes
narrow_fits : (i j : ℕ) (z : List ℕ) → ((k : ℕ) → get_or z k 0 < 256) → i ≤ 4294967295 → j ≤ 4294967295 → (begin p c : ℕ) → 0 ≤ begin → begin < j → c < 4294967296
    → (pair_of i j begin p c (sizes z)).offset < 18446744073709551616
unfolding pair_of
narrow_fits i j z y l m begin p c h n g = omega (arith, between_low z y begin (max i begin) (omega arith))

-- ---- from the place where the walk starts

and_with : (a : Bool) → (a && true) ≡ a
and_with true = refl
and_with false = refl

pub compared : (stsz offsets : List ℕ) (p : ChunkPosition) (i x o : ℕ) → o < 18446744073709551616 → x ≡ between (sizes stsz) p.begin i → o ≡ get_or (chunk_offsets offsets) p.chunk 0
    → leb x (18446744073709551615 - o) ≡ start_fits stsz offsets p i
unfolding start_fits
compared stsz offsets p i x o h e d = rw (← e, ← d) (go x)
  where
    go : (n : ℕ) → leb n (18446744073709551615 - o) ≡ ltb (o + n) 18446744073709551616
    go n = elim (dec_le n (18446744073709551615 - o)) [
      | yes l ↦ rw (le-leb n (18446744073709551615 - o) l, lt-ltb (o + n) 18446744073709551616 (omega arith))
      | no l ↦ rw (lt-leb n (18446744073709551615 - o) (omega arith), le-ltb (o + n) 18446744073709551616 (omega arith))
    ]

pub too_long : (stsc stsz offsets : List ℕ) (chunks i j : ℕ) → 4294967295 < length stsc → false ≡ pairs_fit stsc stsz offsets chunks i j
unfolding pairs_fit
too_long stsc stsz offsets chunks i j h = rw (le-ltb (length stsc) 4294967296 (omega arith))

pub start_low : (stsc : List ℕ) (chunks i : ℕ) (p : ChunkPosition) → StartsAt stsc chunks i p → p.begin ≤ i
start_low stsc chunks i p w = omega (arith, w.at.begins, ap (before (per_chunk stsc chunks)) w.place, before_holder (per_chunk stsc chunks) i)

-- the sizes of samples before j, added
sizes_low : (z : List ℕ) (j : ℕ) → ((k : ℕ) → get_or z k 0 < 256) → j ≤ 4294967295 → (k n : ℕ) → n ≤ j → between (sizes z) k n < 18446744073709551616
sizes_low z j y l k n h = omega (arith, between_low z y k n (omega arith))

pub short_fits : (stsc stsz offsets : List ℕ) (chunks i j : ℕ) → length stsc ≤ 4294967295 → eqb (kind_of offsets) co64 ≡ false → ((k : ℕ) → get_or stsz k 0 < 256) → ((k : ℕ) → get_or offsets k 0 < 256)
    → i ≤ 4294967295 → j ≤ 4294967295 → true ≡ pairs_fit stsc stsz offsets chunks i j
unfolding pairs_fit
short_fits stsc stsz offsets chunks i j l e yz yo m n =
    rw (lt-ltb (length stsc) 4294967296 (omega arith)) (
    sym (fitting_all 18446744073709551616 (pairs_between stsc stsz offsets chunks i j) (
    each_fits 18446744073709551616 i j (sizes stsz) (sizes_low stsz j yz n) 4294967296 0 (narrow_fits i j stsz yz m n) 0 (per_chunk stsc chunks) (chunk_offsets offsets) (omega arith)
    (λ k. narrow_low offsets yo k e))))

module _ (stsc stsz offsets : List ℕ) (chunks i j : ℕ) (p : ChunkPosition) (w : StartsAt stsc chunks i p) where
  pub past_fits : length stsc ≤ 4294967295 → (eqb p.cursor.remaining 0 || leb j p.begin) ≡ true → true ≡ pairs_fit stsc stsz offsets chunks i j
  unfolding pairs_fit
  past_fits l e =
      rw (lt-ltb (length stsc) 4294967296 (omega arith), sym (from_start stsc stsz offsets chunks i j p w) ∙ at_end stsc stsz offsets chunks i j p w.at e)

  module _ (e : (eqb p.cursor.remaining 0 || leb j p.begin) ≡ false) (yz : (k : ℕ) → get_or stsz k 0 < 256) (yo : (k : ℕ) → get_or offsets k 0 < 256) (n : j ≤ 4294967295) where
    rest_fit : all_fit 18446744073709551616 (pairs_ahead stsc stsz offsets chunks i j (place_after stsc chunks p)) ≡ true
    rest_fit =
        fitting_all 18446744073709551616 (pairs_ahead stsc stsz offsets chunks i j (place_after stsc chunks p)) (
        each_fits 18446744073709551616 i j (sizes stsz) (sizes_low stsz j yz n) 18446744073709551616 i (whole_fits 18446744073709551616 i j (sizes stsz) (sizes_low stsz j yz n)) (p.begin + p.cursor.per)
        (ahead stsc chunks (place_after stsc chunks p).cursor) (drop (p.chunk + 1) (chunk_offsets offsets)) (omega (arith, w.at.reaches (some_remain stsc stsz offsets chunks i j p w.at e)))
        (λ k. let d = get_or-drop (p.chunk + 1) (chunk_offsets offsets) k 0 in omega (arith, offset_low offsets yo (p.chunk + 1 + k))))

    first_length : (pair_of i j p.begin p.cursor.per (get_or (chunk_offsets offsets) p.chunk 0) (sizes stsz)).length < 18446744073709551616
    first_length = length_fits 18446744073709551616 i j (sizes stsz) (sizes_low stsz j yz n) p.begin p.cursor.per (get_or (chunk_offsets offsets) p.chunk 0)

    pub first_fits : length stsc ≤ 4294967295 → (r : Bool) → r ≡ start_fits stsz offsets p i → r ≡ pairs_fit stsc stsz offsets chunks i j
    unfolding pairs_fit start_fits pair_of
    first_fits l r d =
        let q : max i p.begin ≡ i = omega (arith, start_low stsc chunks i p w) in
        let a = sym (from_start stsc stsz offsets chunks i j p w) ∙ at_next stsc stsz offsets chunks i j p w.at e in
        d ∙ rw (lt-ltb (length stsc) 4294967296 (omega arith), a, lt-ltb _ 18446744073709551616 first_length, rest_fit, q) (sym (and_with _))

-- ---- what is asked where the pairs are put

-- the lengths are no more than the sizes of the samples, added
touched_most : (i j begin : ℕ) (ps cs zs : List ℕ) → sum (lengths_of (touched i j begin ps cs zs)) ≤ between zs (max i begin) j
unfolding pair_of
touched_most i j begin [] cs zs = omega arith
touched_most i j begin (p ∷ ps) cs zs = elim (dec_lt begin j) [
  | no l ↦ rw (touched_none i j begin (p ∷ ps) cs zs (omega arith)) (omega arith)
  | yes l ↦ elim (dec_lt i (begin + p)) [
    | no m ↦
        let e : max i (begin + p) ≡ max i begin = omega arith in
        rw (before_first i j begin p (omega arith), ← e) (touched_most i j (begin + p) ps (drop 1 cs) zs)
    | yes m ↦ elim (dec_le j (begin + p)) [
      | yes n ↦
          let e : min j (begin + p) ≡ j = omega arith in
          rw (is-touched i j begin p l m, touched_none i j (begin + p) ps (drop 1 cs) zs n, e) (omega arith)
      | no n ↦
          let e : min j (begin + p) ≡ begin + p = omega arith in
          let d : max i (begin + p) ≡ begin + p = omega arith in
          let r = touched_most i j (begin + p) ps (drop 1 cs) zs in
          rw (is-touched i j begin p l m, e) (omega (arith, rw d at r, between_split zs (max i begin) (begin + p) j (omega arith) (omega arith)))
    ]
  ]
]

module _ (stsc stsz offsets : List ℕ) (chunks i j : ℕ) where
  pub fits_short : pairs_fit stsc stsz offsets chunks i j ≡ true → length stsc < 2 ^ 32
  unfolding pairs_fit
  fits_short e = ltb-true _ _ (and_both (ltb (length stsc) 4294967296) _ e).0

  pub fits_putting : pairs_fit stsc stsz offsets chunks i j ≡ true → ((k : ℕ) → get_or stsz k 0 < 256) → j ≤ 4294967295 → (places : ℕ) → 2 * length (pairs_between stsc stsz offsets chunks i j) ≤ places
      → Putting (2 ^ 64) stsc stsz offsets chunks i j places
  unfolding pairs_fit
  fits_putting e y n places h =
      let f = and_both (ltb (length stsc) 4294967296) _ e in
      record {
        short = ltb-true _ _ f.0;
        fits = all_fitting 18446744073709551616 (pairs_between stsc stsz offsets chunks i j) f.1;
        total = omega (arith, touched_most i j 0 (per_chunk stsc chunks) (chunk_offsets offsets) (sizes stsz), between_low stsz y (max i 0) j n);
        room = h;
      }

  pub fitting_fits : length stsc < 2 ^ 32 → Fitting (2 ^ 64) (pairs_between stsc stsz offsets chunks i j) → pairs_fit stsc stsz offsets chunks i j ≡ true
  unfolding pairs_fit
  fitting_fits l f = rw (lt-ltb (length stsc) 4294967296 (omega arith)) (fitting_all 18446744073709551616 (pairs_between stsc stsz offsets chunks i j) f)
