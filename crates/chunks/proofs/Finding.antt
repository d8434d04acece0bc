-- A search for the chunk of a sample: where it falls among the chunks ahead of a cursor says where it falls among all. The offset from a place that was found.
-- Assumes nothing.
use Prim.Native.Nat.{ℕ, ◌+◌, ◌*◌, ◌-◌, ◌/◌, ◌%◌, ◌≤◌, ◌<◌}
use mathlib.Core.Path.{◌≡◌, refl, sym, ap, ◌∙◌}
use mathlib.Core.List.{List, [], ◌∷◌}
use native.Mathlib.Nat.{div-lt_iff_lt-mul}
use native.Mathlib.Omega.{arith}
use native.Mathlib.Decide.{dec_lt}
use lib.ListN.{length, get_or, drop}
use lib.Seq.{get_or-drop}
use Rattle.lists.specs.Lists.{before, between, holder}
use Rattle.lists.proofs.Laws.{Walk, Ahead, walk_start, walk_past, walk_in, walk_fits, in_within, holder_hit, holder_miss, length_run, pos_of_lt_mul}
use Rattle.chunks.specs.Chunks.{deals_in, dealt, per_chunk, description_ids, offset_of}
use Rattle.chunks.specs.Computed.{located_in, located_offset}
use Rattle.chunks.specs.Cursors.{ahead, ids_ahead, Valid, Stands, start_cursor, readied, past, cursor_at, sought}
use Rattle.chunks.specs.declared.ChunkCursor.{ChunkCursor}
use Rattle.chunks.specs.declared.Located.{Located}
use Rattle.chunks.specs.declared.Sought.{Sought}
use Rattle.chunks.proofs.Cursors.{
  start_samples,
  Same,
  ready_same,
  no_samples,
  no_ids,
  ids_cons,
  cursor_from,
  from_start,
  from_in,
  from_end,
  from_readied,
  from_past,
  cursor_further,
  cursor_valid,
}

-- the cursor c stands before chunk `passed`, and `rest` samples of the chunks ahead come before the one sought
pub record Seeking (s : List ℕ) (chunks index : ℕ) (c : ChunkCursor) (passed rest : ℕ) : Type 0 where
  pub walk : Walk (per_chunk s chunks) (ahead s chunks c) index passed rest
  pub cursors : (k : ℕ) → cursor_from s chunks c k ≡ cursor_at s chunks (passed + k)
  pub stands : Stands s c
  pub low : rest ≤ index

pub seeking_start : (s : List ℕ) (chunks index : ℕ) {i c : ChunkCursor} → i ≡ start_cursor → c ≡ readied s chunks i → Seeking s chunks index c 0 index
seeking_start s chunks index {i} {c} a e =
    let w : Same s chunks start_cursor c = rw (e, a) (ready_same s chunks start_cursor) in
    record {
      walk = rw (w.samples, start_samples s chunks) (walk_start (per_chunk s chunks) index);
      cursors = λ k.
          let z : k ≡ 0 + k = omega arith in
          ap (λ (x : ChunkCursor). cursor_from s chunks x k) (e ∙ ap (readied s chunks) a)
          ∙ from_readied s chunks start_cursor k
          ∙ from_start s chunks k
          ∙ ap (cursor_at s chunks) z;
      stands = w.stands;
      low = omega arith;
    }

-- the run in which the cursor stands
module _ {s : List ℕ} {chunks index : ℕ} {c : ChunkCursor} {passed rest : ℕ} (k : Seeking s chunks index c passed rest) where
  here : Ahead (per_chunk s chunks) c.remaining c.per (dealt (λ e. e.per) chunks (deals_in (drop c.at s))) index passed rest
  unfolding ahead
  here = record { walk = k.walk }

  pub seeking_fits : passed + c.remaining ≤ length (per_chunk s chunks)
  seeking_fits = walk_fits here

  -- the chunk of the sample is one of them
  module _ (h : rest < c.remaining * c.per) where
    pub seeking_skip : rest / c.per < c.remaining
    seeking_skip = (div-lt_iff_lt-mul {y = c.remaining} (pos_of_lt_mul c.remaining c.per rest h)).1 h

    pub seeking_in : {i : ChunkCursor} → i ≡ past (rest / c.per) c →
        ◌≡◌ {A = Sought} (record { cursor = i; chunk = passed + rest / c.per; within = rest % c.per }) (sought s chunks index)
    unfolding sought
    seeking_in {i} a =
        let f = walk_in here h in
        let g = a ∙ sym (from_in s chunks c (rest / c.per) seeking_skip) ∙ k.cursors (rest / c.per) ∙ ap (cursor_at s chunks) (sym f.place) in
        λ j. record { cursor = g j; chunk = sym f.place j; within = sym (in_within f) j }

  -- the sample lies past them
  module _ {i r : ChunkCursor} (a : i ≡ past c.remaining c) (e : r ≡ readied s chunks i) where
    after : Same s chunks (past c.remaining c) r
    after = rw (e, a) (ready_same s chunks (past c.remaining c))

    others : ahead s chunks (past c.remaining c) ≡ dealt (λ e. e.per) chunks (deals_in (drop c.at s))
    unfolding ahead
    others = let z : c.remaining - c.remaining ≡ 0 = omega arith in rw z

    pub seeking_past : c.remaining * c.per ≤ rest → Seeking s chunks index r (passed + c.remaining) (rest - c.remaining * c.per)
    seeking_past h = record {
      walk = rw (after.samples, others) (walk_past here h);
      cursors = λ j.
          let z : passed + (c.remaining + j) ≡ passed + c.remaining + j = omega arith in
          ap (λ (x : ChunkCursor). cursor_from s chunks x j) (e ∙ ap (readied s chunks) a)
          ∙ from_readied s chunks (past c.remaining c) j
          ∙ from_past s chunks c c.remaining j (omega arith)
          ∙ k.cursors (c.remaining + j)
          ∙ ap (cursor_at s chunks) z;
      stands = after.stands;
      low = omega (arith, k.low);
    }

    pub seeking_less : (c.remaining ≡ 0 → ⊥) → length (ahead s chunks r) < length (ahead s chunks c)
    unfolding ahead
    seeking_less z =
        omega (arith, ap length (after.samples ∙ others), length_run c.per (dealt (λ e. e.per) chunks (deals_in (drop c.at s))) c.remaining)

  -- no chunk is ahead
  pub seeking_end : c.remaining ≡ 0 → ◌≡◌ {A = Sought} (record { cursor = c; chunk = passed; within = rest }) (sought s chunks index)
  unfolding sought
  seeking_end z =
      let w : Walk (per_chunk s chunks) [] index passed rest = rw (no_samples chunks k.stands z) at k.walk in
      let p : passed ≡ holder (per_chunk s chunks) index = omega (arith, w.placed) in
      let b : rest ≡ index - before (per_chunk s chunks) (holder (per_chunk s chunks) index) = omega (arith, w.begun) in
      let q : passed + 0 ≡ holder (per_chunk s chunks) index = omega arith in
      let g = sym (from_end s chunks c (k.stands.all_read z)) ∙ k.cursors 0 ∙ ap (cursor_at s chunks) q in
      λ j. record { cursor = g j; chunk = p j; within = b j }

-- ---- the place that was found

-- the index of the chunk, the index in it, and a cursor before it, which stands in a run if a chunk is ahead
pub record Finds (s : List ℕ) (chunks i : ℕ) (r : Sought) : Type 0 where
  pub place : r.chunk ≡ holder (per_chunk s chunks) i
  pub start : r.within ≡ i - before (per_chunk s chunks) (holder (per_chunk s chunks) i)
  pub valid : Valid s chunks r.chunk r.cursor
  pub stands : Stands s r.cursor

pub finds : {s : List ℕ} {chunks i : ℕ} {r : Sought} → r ≡ sought s chunks i → Finds s chunks i r
unfolding sought
finds {s} {chunks} {i} {r} e =
    let k = holder (per_chunk s chunks) i in
    rw e (record { place = refl; start = refl; valid = cursor_valid s chunks k; stands = (cursor_further s chunks k).stands })

module _ {s : List ℕ} {chunks i : ℕ} (r : Sought) (f : Finds s chunks i r) where
  first_id : get_or (description_ids s chunks) (holder (per_chunk s chunks) i) 0 ≡ get_or (ids_ahead s chunks r.cursor) 0 0
  first_id =
      let e : r.chunk ≡ r.chunk + 0 = omega arith in
      ap (λ (j : ℕ). get_or (description_ids s chunks) j 0) (sym f.place ∙ e)
      ∙ sym (get_or-drop r.chunk (description_ids s chunks) 0 0)
      ∙ ap (λ (l : List ℕ). get_or l 0 0) (sym f.valid.descriptions)

  located : (d : ℕ) → d ≡ get_or (ids_ahead s chunks r.cursor) 0 0 →
      ◌≡◌ {A = Located} (record { chunk = r.chunk; within = r.within; description = d }) (located_in (per_chunk s chunks) (description_ids s chunks) i)
  unfolding located_in
  located d e = let g = e ∙ sym first_id in λ j. record { chunk = f.place j; within = f.start j; description = g j }

  pub located_none : r.cursor.remaining ≡ 0 → ◌≡◌ {A = Located} (record { chunk = r.chunk; within = r.within; description = 0 }) (located_in (per_chunk s chunks) (description_ids s chunks) i)
  located_none z = located 0 (rw (no_ids chunks f.stands z))

  pub located_some : (r.cursor.remaining ≡ 0 → ⊥) →
      ◌≡◌ {A = Located} (record { chunk = r.chunk; within = r.within; description = r.cursor.description }) (located_in (per_chunk s chunks) (description_ids s chunks) i)
  located_some z = located r.cursor.description (sym (ap (λ (l : List ℕ). get_or l 0 0) (ids_cons s chunks r.cursor (omega arith))))

-- ---- the offset of a sample from its place

pub before_holder : (ps : List ℕ) (i : ℕ) → before ps (holder ps i) ≤ i
before_holder [] i = omega arith
before_holder (p ∷ ps) i = elim (dec_lt i p) [
  | yes l ↦ rw (holder_hit p ps i l) (omega arith)
  | no l ↦ let h : p ≤ i = omega arith in rw (holder_miss p ps i h) (omega (arith, before_holder ps (i - p)))
]

pub offset_located : (ps ids cs zs : List ℕ) (i : ℕ) → located_offset cs zs (located_in ps ids i) i ≡ offset_of ps cs zs i
unfolding located_offset offset_of located_in
offset_located ps ids cs zs i =
    let e : i - (i - before ps (holder ps i)) ≡ before ps (holder ps i) = omega (arith, before_holder ps i) in
    ap (λ (b : ℕ). get_or cs (holder ps i) 0 + between zs b i) e
