-- How many pairs there are, by where the first and the last sample fall: the chunks touched are those that begin by the last, without those before the first.
-- Assumes nothing.
use Prim.Native.Nat.{ℕ, suc, ◌+◌, ◌*◌, ◌-◌, ◌^◌, ◌≤◌, ◌<◌}
use mathlib.Core.Path.{◌≡◌, sym, ap, ◌∙◌}
use mathlib.Core.Bool.{false, ◌||◌}
use mathlib.Core.List.{List, [], ◌∷◌}
use native.Mathlib.Omega.{arith}
use native.Mathlib.Decide.{dec_lt}
use lib.ListN.{length, get_or, drop, length-drop}
use lib.Dec.{eqb, leb}
use Rattle.lists.specs.Lists.{holder}
use Rattle.lists.proofs.Laws.{holder_hit, holder_miss}
use Rattle.chunks.specs.Chunks.{per_chunk}
use Rattle.chunks.specs.Cursors.{sought}
use Rattle.chunks.specs.declared.Sought.{Sought}
use Rattle.chunks.proofs.Cursors.{no_samples, ahead_cons}
use Rattle.chunks.proofs.Finding.{Finds, finds}
use Rattle.chunks.proofs.Turns.{few_chunks}
use Rattle.pairs.specs.Pairs.{touched}
use Rattle.pairs.specs.Walks.{count_between, chunks_to, At, AtOnce}
use Rattle.pairs.specs.declared.ChunkPosition.{ChunkPosition}
use Rattle.pairs.proofs.Touched.{is-touched, before_first, touched_none}
use Rattle.pairs.proofs.Walking.{begins_low, at_chunk, past_chunk}

-- ---- the chunks that begin by a sample

chunks_hit : (p : ℕ) (ps : List ℕ) (t : ℕ) → t < p → chunks_to (p ∷ ps) t ≡ 1
chunks_hit p ps t h = omega (arith, holder_hit p ps t h)

chunks_miss : (p : ℕ) (ps : List ℕ) (t : ℕ) → p ≤ t → chunks_to (p ∷ ps) t ≡ suc (chunks_to ps (t - p))
chunks_miss p ps t h = omega (arith, holder_miss p ps t h)

-- what is left of a sample's distance past a chunk
sub_sub : (t begin p : ℕ) → t - begin - p ≡ t - (begin + p)
sub_sub t begin p = omega arith

less_none : (a : ℕ) → a - 0 ≡ a
less_none a = omega arith

less_suc : (a b : ℕ) → suc a - suc b ≡ a - b
less_suc a b = omega arith

none_past : (b : ℕ) → 0 ≡ 1 - suc b
none_past b = omega arith

-- all of them are touched where the first sample lies before them
all_touched : (i j begin : ℕ) (ps cs zs : List ℕ) → i < begin → begin < j → length (touched i j begin ps cs zs) ≡ chunks_to ps (j - 1 - begin)
all_touched i j begin [] cs zs h g = omega arith
all_touched i j begin (p ∷ ps) cs zs h g =
    let t : i < begin + p = omega arith in
    elim (dec_lt (begin + p) j) [
      | yes l ↦
          let m : p ≤ j - 1 - begin = omega arith in
          rw (is-touched i j begin p g t, chunks_miss p ps (j - 1 - begin) m, sub_sub (j - 1) begin p) (ap suc (all_touched i j (begin + p) ps (drop 1 cs) zs t l))
      | no l ↦
          let m : j - 1 - begin < p = omega arith in
          rw (is-touched i j begin p g t, chunks_hit p ps (j - 1 - begin) m, touched_none i j (begin + p) ps (drop 1 cs) zs (omega arith))
    ]

pub touched_length : (i j begin : ℕ) (ps cs zs : List ℕ) → begin ≤ i → begin < j → length (touched i j begin ps cs zs) ≡ chunks_to ps (j - 1 - begin) - holder ps (i - begin)
touched_length i j begin [] cs zs h g = omega arith
touched_length i j begin (p ∷ ps) cs zs h g = elim (dec_lt i (begin + p)) [
  | yes k ↦
      let f : i - begin < p = omega arith in
      elim (dec_lt (begin + p) j) [
        | yes l ↦
            let m : p ≤ j - 1 - begin = omega arith in
            rw (is-touched i j begin p g k, chunks_miss p ps (j - 1 - begin) m, sub_sub (j - 1) begin p, holder_hit p ps (i - begin) f) (ap suc (all_touched i j (begin + p) ps (drop 1 cs) zs k l) ∙ sym (less_none _))
        | no l ↦
            let m : j - 1 - begin < p = omega arith in
            rw (is-touched i j begin p g k, chunks_hit p ps (j - 1 - begin) m, touched_none i j (begin + p) ps (drop 1 cs) zs (omega arith), holder_hit p ps (i - begin) f)
      ]
  | no k ↦
      let o : begin + p ≤ i = omega arith in
      let f : p ≤ i - begin = omega arith in
      elim (dec_lt (begin + p) j) [
        | yes l ↦
            let m : p ≤ j - 1 - begin = omega arith in
            rw (before_first i j begin p o, chunks_miss p ps (j - 1 - begin) m, sub_sub (j - 1) begin p, holder_miss p ps (i - begin) f, sub_sub i begin p) (touched_length i j (begin + p) ps (drop 1 cs) zs o l ∙ sym (less_suc _ _))
        | no l ↦
            let m : j - 1 - begin < p = omega arith in
            rw (before_first i j begin p o, chunks_hit p ps (j - 1 - begin) m, touched_none i j (begin + p) ps (drop 1 cs) zs (omega arith), holder_miss p ps (i - begin) f) (none_past (holder ps (i - begin - p)))
      ]
]

-- ---- as they are counted

pub count_none : (stsc : List ℕ) (chunks i j : ℕ) → j ≡ 0 → 0 ≡ count_between stsc chunks i j
unfolding count_between
count_none stsc chunks i j e = sym (ap length (touched_none i j 0 (per_chunk stsc chunks) [] [] (omega arith)))

module _ (stsc : List ℕ) (chunks i j : ℕ) (n : j ≡ 0 → ⊥) {begun skipped : ℕ} (e : begun ≡ chunks_to (per_chunk stsc chunks) (j - 1)) (f : skipped ≡ holder (per_chunk stsc chunks) i) where
  pub count_some : begun - skipped ≡ count_between stsc chunks i j
  unfolding count_between
  count_some =
      let d : j - 1 - 0 ≡ j - 1 = omega arith in
      let g : i - 0 ≡ i = omega arith in
      rw (e, f) (sym (rw (d, g) at (touched_length i j 0 (per_chunk stsc chunks) [] [] (omega arith) (omega arith))))

  pub count_over : begun ≤ skipped → 0 ≡ count_between stsc chunks i j
  count_over h = omega (arith, count_some)

holder_few : (ps : List ℕ) (t : ℕ) → holder ps t ≤ length ps
holder_few [] t = omega arith
holder_few (p ∷ ps) t = elim (dec_lt t p) [
  | yes l ↦ omega (arith, holder_hit p ps t l)
  | no l ↦ let h : p ≤ t = omega arith in omega (arith, holder_miss p ps t h, holder_few ps (t - p))
]

module _ (stsc : List ℕ) (chunks t : ℕ) (f : Sought) (o : f ≡ sought stsc chunks t) where
  w : Finds stsc chunks t f
  w = finds o

  pub found_none : f.cursor.remaining ≡ 0 → f.chunk ≡ chunks_to (per_chunk stsc chunks) t
  found_none z =
      let ps = per_chunk stsc chunks in
      omega (arith, w.place, holder_few ps t, ap length (sym w.valid.samples ∙ no_samples chunks w.stands z), length-drop f.chunk ps)

  some_found : (f.cursor.remaining ≡ 0 → ⊥) → f.chunk < length (per_chunk stsc chunks)
  some_found n =
      let ps = per_chunk stsc chunks in
      omega (arith, ap length (ahead_cons stsc chunks f.cursor (omega arith)), ap length w.valid.samples, length-drop f.chunk ps)

  pub found_some : (f.cursor.remaining ≡ 0 → ⊥) → f.chunk + 1 ≡ chunks_to (per_chunk stsc chunks) t
  found_some n = omega (arith, w.place, some_found n)

  pub found_fits : (f.cursor.remaining ≡ 0 → ⊥) → length stsc < 2 ^ 32 → chunks < 4294967296 → ((k : ℕ) → get_or stsc k 0 < 256) → f.chunk + 1 < 2 ^ 64
  found_fits n short c bytes = omega (arith, some_found n, few_chunks stsc chunks short c bytes)

-- ---- the numbers of a place fit their types

module _ (stsc : List ℕ) (chunks i j : ℕ) (p : ChunkPosition) (w : At stsc chunks i p) (e : (eqb p.cursor.remaining 0 || leb j p.begin) ≡ false)
    (short : length stsc < 2 ^ 32) (c : chunks < 4294967296) (bytes : (k : ℕ) → get_or stsc k 0 < 256) (h : j < 4294967296) where
  pub place_fits : (p.begin < 2 ^ 32) × (p.chunk < 2 ^ 63)
  place_fits =
      (omega (arith, begins_low stsc [] [] chunks i j p w e), omega (arith, few_chunks stsc chunks short c bytes, at_chunk stsc [] [] chunks i j p w e))

  pub step_fits : (stsz offsets : List ℕ) (n : ℕ) → AtOnce stsz offsets i j p n
      → (p.chunk + n < 2 ^ 64) × (p.begin < 2 ^ 32) × ((n ≡ 1 → ⊥) → p.begin + n * p.cursor.per < 2 ^ 32)
  step_fits stsz offsets n o = (
    omega (arith, few_chunks stsc chunks short c bytes, past_chunk stsc [] [] chunks i j p w e n o.few o.some),
    place_fits.0,
    λ z. omega (arith, (o.whole z).to),
  )
