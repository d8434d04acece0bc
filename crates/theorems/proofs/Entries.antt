-- The lists of a track say what its entries in the file say, read by their places: each list at an index is a number of an entry, and each sum one over the entries.
-- Assumes nothing.
use Prim.Native.Nat.{ℕ, zero, suc, ◌+◌, ◌-◌, ◌*◌, ◌≤◌, ◌<◌}
use mathlib.Core.Path.{◌≡◌, refl, sym, ap, ◌∙◌}
use mathlib.Core.Bool.{Bool, true, false, cond}
use mathlib.Core.List.{List, [], ◌∷◌, map}
use native.Mathlib.Omega.{arith}
use native.Mathlib.Decide.{ℕ_discrete, dec_lt}
use lib.Dec.{lit<, lit≤, eqb}
use lib.ListN.{length, get_or, drop, replicate, length-map, length-drop}
use lib.Seq.{get_or-drop}
use borrow.Author.Tests.{eq-eqb, ne_eqb, eqb-true, eqb-false}
use Rattle.atoms.specs.Atoms.{kind_of, atoms, of_kind}
use Rattle.bigendian.specs.BigEndian.{be_at, u32_at, u64_at}
use Rattle.bigendian.proofs.Laws.{be_at_take, be_at_drop, be_at_past}
use Rattle.atoms.specs.Kinds.{stbl, stts, stsc, stsz, stco, co64}
use Rattle.lists.specs.Lists.{Run, sum, before, expand, holder, Holds}
use Rattle.lists.specs.Entries.{rows_of, entries}
use Rattle.lists.proofs.Laws.{length_run, sum_run, get_or_in, get_or_past}
use Rattle.lists.proofs.Places.{before_suc, before_all, holder_holds, holds_below}
use Rattle.lists.proofs.Rows.{rows_next, length_rows}
use Rattle.lists.proofs.Cuts.{rows_drop}
use Rattle.runs.specs.Runs.{run_of, runs_of, per_sample, entry_of}
use Rattle.words.specs.Words.{sizes, numbers_in, width_of, offset_width, chunk_offsets}
use Rattle.words.proofs.Turns.{offsets_of, width_above, numbers_at, words_at, sizes_listed, sizes_common}
use Rattle.chunks.specs.Chunks.{Deal, deal_of, deals, first_of, dealt, per_chunk}
use Rattle.chunks.specs.Computed.{dealing, deals_agree}
use Rattle.chunks.proofs.Clauses.{dealing_cons, agreed}
use Rattle.structure.specs.Track.{stbl_of, table_of, offset_table, samples_of, chunks_of}
use Rattle.shape.proofs.Shaped.{Entered, Shaped}
use Rattle.theorems.specs.Entries.{stts_entries, sample_count, sample_duration, stsc_entries, first_chunk, samples_per_chunk, chunk_offset, sample_size, counted_by, media_total}
use Rattle.theorems.specs.Demand.{Counts, HoldsFor}
use Rattle.theorems.proofs.Added.{same_sums, before_up}

-- ---- numbers by their index

map_map : {A B C : Type 0} (g : B → C) (f : A → B) (l : List A) → map g (map f l) ≡ map (λ x. g (f x)) l
map_map g f [] = refl
map_map g f (x ∷ l) = ap (λ r. g (f x) ∷ r) (map_map g f l)

map_drop : {A : Type 0} (f : A → ℕ) (k : ℕ) (l : List A) → drop k (map f l) ≡ map f (drop k l)
map_drop f zero l = refl
map_drop f (suc k) [] = refl
map_drop f (suc k) (x ∷ l) = map_drop f k l

-- ---- a number of an entry

-- the number at `at` in the entry k of a table with that head and width
module _ (w head at : ℕ) (p : 0 < w) (fits : at + 4 ≤ w) (s : List ℕ) where
  field_at : (k : ℕ) → head + k * w + w ≤ length s → get_or (map (λ e. u32_at e at) (rows_of w (drop head s))) k 0 ≡ u32_at s (head + (k * w + at))
  field_at k h =
      let f : List ℕ → ℕ = λ e. u32_at e at in
      let t = drop head s in
      let x = drop (k * w) t in
      let n : w ≤ length x = omega (arith, length-drop (k * w) t, length-drop head s) in
      let z : k + 0 ≡ k = omega arith in
      ap (λ (j : ℕ). get_or (map f (rows_of w t)) j 0) (sym z)
      ∙ sym (get_or-drop k (map f (rows_of w t)) 0 0)
      ∙ ap (λ (l : List ℕ). get_or l 0 0) (map_drop f k (rows_of w t) ∙ ap (map f) (sym (rows_drop w p k t) ∙ rows_next w x p n))
      ∙ be_at_take 4 w x at fits
      ∙ be_at_drop 4 (k * w) t at
      ∙ be_at_drop 4 head s (k * w + at)

-- ---- runs

counts : List Run → List ℕ
counts rs = map (λ r. r.count) rs

values : List Run → List ℕ
values rs = map (λ r. r.value) rs

products : List Run → List ℕ
products rs = map (λ r. r.count * r.value) rs

run_sum : (rs : List Run) → sum (expand rs) ≡ sum (products rs)
unfolding products
run_sum [] = refl
run_sum (r ∷ rs) = omega (arith, sum_run r.value (expand rs) r.count, run_sum rs)

run_length : (rs : List Run) → length (expand rs) ≡ sum (counts rs)
unfolding counts
run_length [] = refl
run_length (r ∷ rs) = omega (arith, length_run r.value (expand rs) r.count, run_length rs)

product_at : (rs : List Run) (k : ℕ) → get_or (products rs) k 0 ≡ get_or (counts rs) k 0 * get_or (values rs) k 0
unfolding products counts values
product_at [] zero = refl
product_at [] (suc k) = refl
product_at (r ∷ rs) zero = refl
product_at (r ∷ rs) (suc k) = product_at rs k

-- the number with an index is that of the run which counts it
run_at : (rs : List Run) (i k : ℕ) → Holds (counts rs) i k → get_or (expand rs) i 0 ≡ get_or (values rs) k 0
unfolding counts values
run_at [] i k h = absurd (omega (arith, holds_below [] i k h))
run_at (r ∷ rs) i zero h = get_or_in r.value (expand rs) r.count i (omega (arith, h.to))
run_at (r ∷ rs) i (suc k) h =
    let l : r.count ≤ i = omega (arith, h.from) in
    get_or_past r.value (expand rs) r.count i l ∙ run_at rs (i - r.count) k (record { from = omega (arith, h.from); to = omega (arith, h.to) })

-- ---- stts

module _ (t : List ℕ) (h : Shaped t) where
  runs : List Run
  runs = runs_of (table_of stts t)

  counts_in : counts runs ≡ map (λ e. u32_at e 0) (rows_of 8 (drop 16 (table_of stts t)))
  unfolding counts runs runs_of entries
  counts_in = map_map (λ r. r.count) run_of (rows_of 8 (drop 16 (table_of stts t)))

  values_in : values runs ≡ map (λ e. u32_at e 4) (rows_of 8 (drop 16 (table_of stts t)))
  unfolding values runs runs_of entries
  values_in = map_map (λ r. r.value) run_of (rows_of 8 (drop 16 (table_of stts t)))

  counts_length : length (counts runs) ≡ stts_entries t
  counts_length =
      let s = table_of stts t in
      omega (arith, ap length counts_in, length-map (rows_of 8 (drop 16 s)) (λ e. u32_at e 0), length_rows 8 (drop 16 s), length-drop 16 s, h.stts_size)

  products_length : length (products runs) ≡ stts_entries t
  unfolding products counts
  products_length = omega (arith, length-map runs (λ r. r.count * r.value), length-map runs (λ r. r.count), counts_length)

  count_at : (k : ℕ) → k < stts_entries t → get_or (counts runs) k 0 ≡ sample_count t k
  count_at k l =
      let e : 16 + (k * 8 + 0) ≡ 16 + 8 * k = omega arith in
      ap (λ (x : List ℕ). get_or x k 0) counts_in ∙ field_at 8 16 0 (lit< tt) (lit≤ tt) (table_of stts t) k (omega (arith, h.stts_size)) ∙ ap (u32_at (table_of stts t)) e

  duration_at : (k : ℕ) → k < stts_entries t → get_or (values runs) k 0 ≡ sample_duration t k
  duration_at k l =
      let e : 16 + (k * 8 + 4) ≡ 20 + 8 * k = omega arith in
      ap (λ (x : List ℕ). get_or x k 0) values_in ∙ field_at 8 16 4 (lit< tt) (lit≤ tt) (table_of stts t) k (omega (arith, h.stts_size)) ∙ ap (u32_at (table_of stts t)) e

  counted_is : (k : ℕ) → k ≤ stts_entries t → counted_by t k ≡ before (counts runs) k
  counted_is k l = same_sums (sample_count t) (λ j. get_or (counts runs) j 0) k (λ j g. sym (count_at j (omega arith))) ∙ before_up (counts runs) k

  -- the total of the durations, and how many there are
  pub total_is : sum (per_sample (table_of stts t)) ≡ media_total t
  unfolding per_sample runs
  total_is =
      let n = stts_entries t in
      run_sum runs
      ∙ sym (before_all (products runs) (length (products runs)) (omega arith))
      ∙ ap (before (products runs)) products_length
      ∙ sym (before_up (products runs) n)
      ∙ same_sums (λ j. get_or (products runs) j 0) (λ k. sample_count t k * sample_duration t k) n
      (λ k g. product_at runs k ∙ ap (λ (x : ℕ). x * get_or (values runs) k 0) (count_at k g) ∙ ap (λ (x : ℕ). sample_count t k * x) (duration_at k g))

  pub count_is : length (per_sample (table_of stts t)) ≡ counted_by t (stts_entries t)
  unfolding per_sample runs
  count_is = run_length runs ∙ sym (before_all (counts runs) (length (counts runs)) (omega arith)) ∙ ap (before (counts runs)) counts_length ∙ sym (counted_is (stts_entries t) (omega arith))

  -- each is that of the entry which counts it
  pub entry_counts : (n i : ℕ) → n ≡ suc i → i < length (per_sample (table_of stts t))
      → (k : ℕ) × Counts t k n × (get_or (per_sample (table_of stts t)) i 0 ≡ sample_duration t k) × (entry_of (runs_of (table_of stts t)) i ≡ suc k)
  unfolding per_sample runs counts entry_of
  entry_counts n i q l =
      let k = holder (counts runs) i in
      let w = holder_holds (counts runs) i (omega (arith, run_length runs)) in
      let g : k < stts_entries t = omega (arith, (holds_below (counts runs) i k w).1, counts_length) in (
        k,
        record {
          there = g;
          after = omega (arith, counted_is k (omega arith), w.from);
          upto = omega (arith, counted_is (suc k) (omega arith), before_suc (counts runs) k, w.to);
        },
        run_at runs i k w ∙ duration_at k g,
        refl,
      )

-- ---- stsz and the table of chunk offsets

pub size_at : (t : List ℕ) → Shaped t → (n i : ℕ) → n ≡ suc i → i < samples_of t → get_or (sizes (table_of stsz t)) i 0 ≡ sample_size t n
size_at t h n i q l =
    let z = table_of stsz t in
    elim (ℕ_discrete (u32_at z 12) 0) [
      | yes e ↦
          let a : 20 + i * 4 ≡ 20 + 4 * (n - 1) = omega arith in
          ap (λ (x : List ℕ). get_or x i 0) (sizes_listed z refl e)
          ∙ words_at (drop 20 z) i (omega (arith, length-drop 20 z, h.stsz_size e))
          ∙ be_at_drop 4 20 z (i * 4)
          ∙ rw (eq-eqb (u32_at z 12) 0 e) (ap (u32_at z) a)
      | no e ↦ ap (λ (x : List ℕ). get_or x i 0) (sizes_common z refl e) ∙ replicate_at (u32_at z 16) (u32_at z 12) i l ∙ rw (ne_eqb (u32_at z 12) 0 e)
    ]
  where
    replicate_at : (n v i : ℕ) → i < n → get_or (replicate n v) i 0 ≡ v
    replicate_at zero v i h = absurd (omega arith)
    replicate_at (suc n) v zero h = refl
    replicate_at (suc n) v (suc i) h = replicate_at n v i (omega arith)

-- the first atom of a kind has that kind
first_kind : (k : ℕ) (l : List (List ℕ)) → 0 < length (get_or (of_kind k l) 0 []) → kind_of (get_or (of_kind k l) 0 []) ≡ k
unfolding of_kind
first_kind k [] h = absurd (omega arith)
first_kind k (a ∷ l) h = go (eqb (kind_of a) k) refl h (first_kind k l)
  where
    go : (b : Bool) → eqb (kind_of a) k ≡ b → 0 < length (get_or (cond b (a ∷ of_kind k l) (of_kind k l)) 0 [])
        → (0 < length (get_or (of_kind k l) 0 []) → kind_of (get_or (of_kind k l) 0 []) ≡ k)
        → kind_of (get_or (cond b (a ∷ of_kind k l) (of_kind k l)) 0 []) ≡ k
    go true e g rest = eqb-true (kind_of a) k e
    go false e g rest = rest g

table_kind : (k : ℕ) (t : List ℕ) → 0 < length (table_of k t) → kind_of (table_of k t) ≡ k
unfolding table_of
table_kind k t h = first_kind k (atoms stbl (stbl_of t)) h

-- the number of a chunk's offset in a table, by the table's own type
typed_offset : List ℕ → ℕ → ℕ
typed_offset o c = be_at (offset_width o) o (16 + offset_width o * (c - 1))

-- stco has its own type, and so has co64
offset_stated : (t : List ℕ) (c : ℕ) → 1 ≤ c → c ≤ chunks_of t → typed_offset (offset_table t) c ≡ chunk_offset t c
unfolding typed_offset offset_table offset_width
offset_stated t c lo hi = go (eqb (length (table_of stco t)) 0) refl hi
  where
    go : (b : Bool) → eqb (length (table_of stco t)) 0 ≡ b → c ≤ u32_at (cond b (table_of co64 t) (table_of stco t)) 12
        → typed_offset (cond b (table_of co64 t) (table_of stco t)) c
        ≡ cond b (u64_at (table_of co64 t) (16 + 8 * (c - 1))) (u32_at (table_of stco t) (16 + 4 * (c - 1)))
    go true e k = elim (dec_lt 0 (length (table_of co64 t))) [
      | yes l ↦ rw (table_kind co64 t l)
      | no l ↦ absurd (omega (arith, be_at_past 4 (table_of co64 t) 12 (omega arith)))
    ]
    go false e k = rw (table_kind stco t (omega (arith, eqb-false (length (table_of stco t)) 0 e)))

pub offset_at : (t : List ℕ) → Shaped t → (c : ℕ) → 1 ≤ c → c ≤ chunks_of t → get_or (chunk_offsets (offset_table t)) (c - 1) 0 ≡ chunk_offset t c
unfolding offset_width typed_offset
offset_at t h c lo hi =
    ap (λ (x : List ℕ). get_or x (c - 1) 0) (offsets_of (offset_table t) refl refl)
    ∙ go (offset_table t) (eqb (kind_of (offset_table t)) co64) h.offsets_size hi
    ∙ offset_stated t c lo hi
  where
    go : (o : List ℕ) (long : Bool) → Entered (width_of long) o → c ≤ u32_at o 12
        → get_or (numbers_in (width_of long) (drop 16 o)) (c - 1) 0 ≡ be_at (width_of long) o (16 + width_of long * (c - 1))
    go o true e k =
        let a : 16 + (c - 1) * 8 ≡ 16 + 8 * (c - 1) = omega arith in
        numbers_at 8 (width_above true) (drop 16 o) (c - 1) (omega (arith, length-drop 16 o)) ∙ be_at_drop 8 16 o ((c - 1) * 8) ∙ ap (be_at 8 o) a
    go o false e k =
        let a : 16 + (c - 1) * 4 ≡ 16 + 4 * (c - 1) = omega arith in
        numbers_at 4 (width_above false) (drop 16 o) (c - 1) (omega (arith, length-drop 16 o)) ∙ be_at_drop 4 16 o ((c - 1) * 4) ∙ ap (be_at 4 o) a

-- ---- stsc

firsts : List Deal → List ℕ
firsts es = map (λ e. e.first) es

numbers : List Deal → List ℕ
numbers es = map (λ e. e.per) es

-- the entry that holds for the chunk c, and the chunk's number
entry_for : (chunks descriptions : ℕ) (es : List Deal) → dealing chunks descriptions es ≡ true → (c : ℕ) → first_of chunks es ≤ c → c ≤ chunks
    → (k : ℕ) × (k < length es) × (get_or (firsts es) k 0 ≤ c) × (suc k < length es → c < get_or (firsts es) (suc k) 0)
    × (get_or (dealt (λ e. e.per) chunks es) (c - first_of chunks es) 0 ≡ get_or (numbers es) k 0)
unfolding firsts numbers
entry_for chunks descriptions [] q c lo hi = absurd (omega arith)
entry_for chunks descriptions (e ∷ es) q c lo hi =
    let r = dealing_cons chunks descriptions e es q in
    let n = first_of chunks es - e.first in
    let ds = dealt (λ x. x.per) chunks es in
    elim (dec_lt c (first_of chunks es)) [
      | yes l ↦ (0, omega arith, lo, next es l, get_or_in e.per ds n (c - e.first) (omega arith))
      | no l ↦
          let w = entry_for chunks descriptions es r.1 c (omega arith) hi in
          let m : c - e.first - n ≡ c - first_of chunks es = omega (arith, r.0.some) in
          let g : n ≤ c - e.first = omega (arith, r.0.some) in
          (suc w.0, omega (arith, w.1), w.2, λ h. w.3 (omega arith), get_or_past e.per ds n (c - e.first) g ∙ ap (λ (x : ℕ). get_or ds x 0) m ∙ w.4)
    ]
  where
    next : (l : List Deal) → c < first_of chunks l → 1 < suc (length l) → c < get_or (map (λ x. x.first) l) 0 0
    next [] g h = absurd (omega arith)
    next (f ∷ l) g h = g

module _ (t : List ℕ) (h : Shaped t) where
  firsts_in : firsts (deals (table_of stsc t)) ≡ map (λ e. u32_at e 0) (rows_of 12 (drop 16 (table_of stsc t)))
  unfolding firsts deals entries
  firsts_in = map_map (λ e. e.first) deal_of (rows_of 12 (drop 16 (table_of stsc t)))

  numbers-in : numbers (deals (table_of stsc t)) ≡ map (λ e. u32_at e 4) (rows_of 12 (drop 16 (table_of stsc t)))
  unfolding numbers deals entries
  numbers-in = map_map (λ e. e.per) deal_of (rows_of 12 (drop 16 (table_of stsc t)))

  deals_length : length (deals (table_of stsc t)) ≡ stsc_entries t
  unfolding deals entries
  deals_length =
      let s = table_of stsc t in
      omega (arith, length-map (rows_of 12 (drop 16 s)) deal_of, length_rows 12 (drop 16 s), length-drop 16 s, h.stsc_size)

  first_at : (k : ℕ) → k < stsc_entries t → get_or (firsts (deals (table_of stsc t))) k 0 ≡ first_chunk t k
  first_at k l =
      let e : 16 + (k * 12 + 0) ≡ 16 + 12 * k = omega arith in
      ap (λ (x : List ℕ). get_or x k 0) firsts_in ∙ field_at 12 16 0 (lit< tt) (lit≤ tt) (table_of stsc t) k (omega (arith, h.stsc_size)) ∙ ap (u32_at (table_of stsc t)) e

  number_at : (k : ℕ) → k < stsc_entries t → get_or (numbers (deals (table_of stsc t))) k 0 ≡ samples_per_chunk t k
  number_at k l =
      let e : 16 + (k * 12 + 4) ≡ 20 + 12 * k = omega arith in
      ap (λ (x : List ℕ). get_or x k 0) numbers-in ∙ field_at 12 16 4 (lit< tt) (lit≤ tt) (table_of stsc t) k (omega (arith, h.stsc_size)) ∙ ap (u32_at (table_of stsc t)) e

  pub entry_holds : (descriptions : ℕ) → deals_agree (table_of stsc t) (chunks_of t) descriptions ≡ true → (c : ℕ) → 1 ≤ c → c ≤ chunks_of t
      → (k : ℕ) × HoldsFor t k c × (get_or (per_chunk (table_of stsc t) (chunks_of t)) (c - 1) 0 ≡ samples_per_chunk t k)
  unfolding per_chunk
  entry_holds descriptions a c lo hi =
      let es = deals (table_of stsc t) in
      let g = agreed (table_of stsc t) (chunks_of t) descriptions a in
      let w = entry_for (chunks_of t) descriptions es g.1 c (omega (arith, g.0)) hi in
      let l : w.0 < stsc_entries t = omega (arith, w.1, deals_length) in (
        w.0,
        record {
          there = l;
          from = omega (arith, w.2, first_at w.0 l);
          to = λ m. omega (arith, w.3 (omega (arith, deals_length)), first_at (suc w.0) m);
        },
        ap (λ (x : ℕ). get_or (dealt (λ e. e.per) (chunks_of t) es) (c - x) 0) (sym g.0) ∙ w.4 ∙ number_at w.0 l,
      )
