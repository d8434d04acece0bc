-- The samples of a stretch of a track and their pairs, from what the code has of its tables.
-- Assumes nothing.
use Rattle.std.specs.Prelude.{Option, Some, None}
use Prim.Native.Nat.{ℕ, suc, ◌+◌, ◌*◌, ◌-◌, ◌^◌, ◌≤◌, ◌<◌}
use mathlib.Core.Path.{◌≡◌, refl, sym, ◌∙◌}
use mathlib.Core.List.{List, []}
use native.Mathlib.Omega.{arith}
use native.Mathlib.Decide.{dec_lt, dec_le}
use borrow.Author.Tests.{lt-ltb, le-ltb, le-leb, lt-leb, not-false}
use mathlib.Core.Bool.{true, ◌&&◌}
use lib.Dec.{ltb, leb}
use lib.ListN.{length, get_or}
use Rattle.bigendian.specs.BigEndian.{u32_at}
use Rattle.atoms.specs.Kinds.{stts, stsc, stsz}
use Rattle.lists.specs.Lists.{sum, holder}
use Rattle.lists.proofs.Places.{holds_below, holder_holds, holder_only, holder_mono}
use Rattle.runs.specs.Runs.{per_sample, sample_at}
use Rattle.runs.proofs.Sentences.{sample_holds, outside_known}
use Rattle.words.specs.Words.{sizes, chunk_offsets}
use Rattle.chunks.specs.Chunks.{per_chunk}
use Rattle.chunks.proofs.Agreed.{samples_length}
use Rattle.structure.specs.Track.{table_of, offset_table, samples_of, chunks_of}
use Rattle.structure.proofs.Lengths.{table_short}
use Rattle.track.specs.Refusals.{total_in, chunk_past_end}
use Rattle.track.proofs.Agreed.{agreed_tables}
use Rattle.pairs.specs.Walks.{pairs_between, count_between, Fitting, Putting}
use Rattle.pairs.proofs.Touched.{touched_count, touched_few, touched_fits}
use Rattle.pair_checks.proofs.Fits.{fits_putting, fitting_fits}
use Rattle.spans.specs.Spans.{Usable, span_in, is_span, span_said, span_pairs}
use Rattle.spans.specs.declared.Span.{Span}
use Rattle.std.specs.Prelude.{Result, Ok, Err}
use Rattle.refusals.specs.declared.Refusal.{Refusal}
use Rattle.refusals.specs.declared.Refusal.TheVariants as refusals

-- a table of a track that is usable
pub table_fits : {bound : ℕ} (k : ℕ) (t x : List ℕ) → x ≡ table_of k t → Usable bound t → length x < 2 ^ 32
table_fits k t x e u = rw e (omega (arith, table_short k t, u.short))

-- ---- the samples

module _ (x : List ℕ) (time : ℕ) (f : Option ℕ) (g : f ≡ sample_at (per_sample x) time) where
  pub not_outside : time < sum (per_sample x) → f ≡ None → ⊥
  not_outside h e = let k = outside_known (per_sample x) time (sym g ∙ e) in omega arith

  pub index_is : (i : ℕ) → f ≡ Some i → (i ≡ holder (per_sample x) time) × (time < sum (per_sample x))
  index_is i e =
      let w = sample_holds (per_sample x) time i (sym g ∙ e) in
      (holder_only (per_sample x) time i w, (holds_below (per_sample x) time i w).0)

-- the first sample is no later than the last
pub first_low : (x : List ℕ) (a b : ℕ) (f : Option ℕ) → f ≡ sample_at (per_sample x) (b - 1) → (i : ℕ) → f ≡ Some i → a < b → i < 4294967295 → (a < sum (per_sample x)) × (holder (per_sample x) a < 2 ^ 32)
first_low x a b f g i e o h =
    let k = index_is x (b - 1) f g i e in
    let m = holder_mono (per_sample x) a (b - 1) (omega arith) in
    (omega (arith, k.1), omega (arith, k.0))

-- by the bytes of stts, from the sample at b - 1
module _ (x : List ℕ) (n a b : ℕ) where
  pub span_empty : b ≤ a → Err refusals.Outside ≡ span_said x n a b
  unfolding span_said is_span
  span_empty h = rw (le-ltb a b h)

  module _ (o : a < b) where
    pub span_long : 4294967295 < length x → Err refusals.Outside ≡ span_said x n a b
    unfolding span_said is_span
    span_long h = rw (lt-ltb a b o, le-ltb (length x) 4294967296 (omega arith))

    module _ (l : length x ≤ 4294967295) (f : Option ℕ) (g : f ≡ sample_at (per_sample x) (b - 1)) where
      pub span_outside : f ≡ None → Err refusals.Outside ≡ span_said x n a b
      unfolding span_said is_span
      span_outside e =
          let k = outside_known (per_sample x) (b - 1) (sym g ∙ e) in
          rw (lt-ltb a b o, lt-ltb (length x) 4294967296 (omega arith), lt-leb b (sum (per_sample x)) (omega arith))

      module _ (i : ℕ) (e : f ≡ Some i) where
        pub span_past : n ≤ i → Err refusals.Outside ≡ span_said x n a b
        unfolding span_said is_span
        span_past h =
            let k = index_is x (b - 1) f g i e in
            rw (lt-ltb a b o, lt-ltb (length x) 4294967296 (omega arith), le-leb b (sum (per_sample x)) (omega (arith, k.1)), lt-leb (suc (holder (per_sample x) (b - 1))) n (omega (arith, k.0)))

        pub span_found : i < n → (from stop : ℕ) → from ≡ holder (per_sample x) a → stop ≡ i + 1 → Ok (record { from = from; stop = stop }) ≡ span_said x n a b
        unfolding span_said is_span
        span_found h from stop p r =
            let k = index_is x (b - 1) f g i e in
            let z : stop ≡ suc (holder (per_sample x) (b - 1)) = omega (arith, k.0) in
            rw (lt-ltb a b o, lt-ltb (length x) 4294967296 (omega arith), le-leb b (sum (per_sample x)) (omega (arith, k.1)), le-leb (suc (holder (per_sample x) (b - 1))) n (omega (arith, k.0)), p, z)

-- of a track that is usable the tables say it
pub track_span : (t : List ℕ) (a b : ℕ) → Usable (2 ^ 64) t → is_span (table_of stts t) (samples_of t) a b ≡ (ltb a b && leb b (total_in t))
unfolding is_span total_in
track_span t a b u = elim (dec_lt a b) [
  | no o ↦ rw (le-ltb a b (omega arith))
  | yes o ↦ elim (dec_le b (sum (per_sample (table_of stts t)))) [
    | no h ↦ rw (lt-ltb a b o, lt-leb b (sum (per_sample (table_of stts t))) (omega arith), lt-ltb (length (table_of stts t)) 4294967296 (table_fits stts t (table_of stts t) refl u))
    | yes h ↦
        let ds = per_sample (table_of stts t) in
        let k = holds_below ds (b - 1) (holder ds (b - 1)) (holder_holds ds (b - 1) (omega arith)) in
        rw (lt-ltb a b o, le-leb b (sum ds) h, lt-ltb (length (table_of stts t)) 4294967296 (table_fits stts t (table_of stts t) refl u), le-leb (suc (holder ds (b - 1))) (samples_of t) (omega (arith, k.1, (agreed_tables t u.agree).counted)))
  ]
]

pub span_is : (t x z : List ℕ) (n a b : ℕ) (r : Result Span Refusal) → Usable (2 ^ 64) t → x ≡ table_of stts t → z ≡ table_of stsz t → n ≡ u32_at z 16 → r ≡ span_said x n a b → r ≡ span_in t a b
unfolding span_said span_in
span_is t x z n a b r u ex ez en e =
    let k : n ≡ samples_of t = en ∙ rw ez in
    e ∙ rw (ex, k, track_span t a b u)

-- ---- the pairs

pub count_same : (stsc stsz stco : List ℕ) (chunks i j : ℕ) → count_between stsc chunks i j ≡ length (pairs_between stsc stsz stco chunks i j)
unfolding count_between
count_same stsc stsz stco chunks i j = touched_count i j 0 (per_chunk stsc chunks) [] [] (chunk_offsets stco) (sizes stsz)

pub count_is : (t x o : List ℕ) (s : Span) (c n : ℕ) → x ≡ table_of stsc t → o ≡ offset_table t → c ≡ u32_at o 12 → n ≡ count_between x c s.from s.stop → n ≡ length (span_pairs t s)
unfolding span_pairs
count_is t x o s c n e f g h =
    let k : c ≡ chunks_of t = g ∙ rw f in
    h ∙ rw (e, k) (count_same (table_of stsc t) (table_of stsz t) (offset_table t) (chunks_of t) s.from s.stop)

module _ {bound : ℕ} (t : List ℕ) (s : Span) (u : Usable bound t) where
  pub pairs_by_chunks : length (span_pairs t s) ≤ chunks_of t
  unfolding span_pairs
  pairs_by_chunks =
      let ps = per_chunk (table_of stsc t) (chunks_of t) in
      omega (
        arith,
        touched_few s.from s.stop 0 ps (chunk_offsets (offset_table t)) (sizes (table_of stsz t)),
        samples_length (table_of stsc t) (chunks_of t) _ (agreed_tables t u.agree).deals,
      )

  pub pairs_few : length (span_pairs t s) ≤ 1048576
  pairs_few = omega (arith, pairs_by_chunks, u.few_chunks)

  -- for a room of two numbers for each chunk
  pub room_there : (o : List ℕ) (c most : ℕ) → o ≡ offset_table t → c ≡ u32_at o 12 → c ≤ most → leb (length (span_pairs t s)) most ≡ true
  room_there o c most eo ec h = let e : c ≡ chunks_of t = ec ∙ rw eo in le-leb (length (span_pairs t s)) most (omega (arith, pairs_by_chunks))

  pub pairs-fit : s.from ≤ s.stop → Fitting bound (span_pairs t s)
  unfolding span_pairs chunk_past_end
  pairs-fit o = touched_fits u.limit s.from s.stop 0 (per_chunk (table_of stsc t) (chunks_of t)) (chunk_offsets (offset_table t)) (sizes (table_of stsz t)) o u.low (not-false _ u.within)

-- in numbers of at most 64 bits
module _ {bound : ℕ} (t : List ℕ) (s : Span) (u : Usable bound t) (low : bound ≤ 2 ^ 64) (y : (k : ℕ) → get_or (table_of stsz t) k 0 < 256) (n : s.stop ≤ 4294967295) (o : s.from ≤ s.stop) where
  wide : Usable (2 ^ 64) t
  wide = record {
    short = u.short;
    agree = u.agree;
    few_samples = u.few_samples;
    few_chunks = u.few_chunks;
    limit = u.limit;
    low = omega (arith, u.low);
    within = u.within;
  }

  putting : (k : ℕ) → 2 * length (span_pairs t s) ≤ k → Putting bound (table_of stsc t) (table_of stsz t) (offset_table t) (chunks_of t) s.from s.stop k
  unfolding span_pairs
  putting k h =
      let l = table_fits stsc t (table_of stsc t) refl u in
      let f = fitting_fits (table_of stsc t) (table_of stsz t) (offset_table t) (chunks_of t) s.from s.stop l (pairs-fit t s wide o) in
      let w = fits_putting (table_of stsc t) (table_of stsz t) (offset_table t) (chunks_of t) s.from s.stop f y n k h in
      record { short = l; fits = pairs-fit t s u o; total = w.total; room = h }

-- from what the code has of the tables
module _ (t x z o : List ℕ) (s : Span) (c : ℕ) (ex : x ≡ table_of stsc t) (ez : z ≡ table_of stsz t) (eo : o ≡ offset_table t) (ec : c ≡ u32_at o 12) where
  pub between_is : pairs_between x z o c s.from s.stop ≡ span_pairs t s
  unfolding span_pairs
  between_is = let k : c ≡ chunks_of t = ec ∙ rw eo in rw (ex, ez, eo, k)

  pub may_put : {bound : ℕ} → Usable bound t → bound ≤ 2 ^ 64 → ((k : ℕ) → get_or z k 0 < 256) → s.stop ≤ 4294967295 → s.from ≤ s.stop → (k : ℕ) → 2 * length (span_pairs t s) ≤ k
      → Putting bound x z o c s.from s.stop k
  may_put u low y l q k h = let n : c ≡ chunks_of t = ec ∙ rw eo in rw (ex, ez, eo, n) (putting t s u low (rw ez at y) l q k h)
