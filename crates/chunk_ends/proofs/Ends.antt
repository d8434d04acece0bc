-- Refusal 12: one turn of the walk, some chunks of a run at once, over stsc, stco and stsz together; and the sentence that the test computes.
-- Assumes nothing.
use Prim.Native.Nat.{ℕ, zero, suc, ◌+◌, ◌-◌, ◌*◌, ◌≤◌, ◌<◌}
use mathlib.Core.Path.{◌≡◌, refl, sym, ap, ◌∙◌}
use mathlib.Core.Bool.{Bool, true, false, cond, not}
use mathlib.Core.List.{List, [], ◌∷◌}
use native.Mathlib.Omega.{arith}
use lib.Dec.{ltb, eqb}
use lib.ListN.{length, get_or, take, drop, replicate}
use lib.Seq.{drop-drop}
use borrow.Author.Tests.{le-ltb, ltb-false}
use Rattle.bigendian.specs.BigEndian.{u32_at}
use Rattle.atoms.specs.Atoms.{kind_of}
use Rattle.atoms.specs.Kinds.{co64}
use Rattle.lists.specs.Lists.{sum, before, between, holder}
use Rattle.lists.proofs.Laws.{length_run}
use Rattle.lists.proofs.Places.{holds_below, holder_holds, between_split, between_one}
use Rattle.lists.proofs.Booleans.{cond_unless}
use Rattle.words.specs.Words.{numbers_in, sizes, width_of, chunk_offsets}
use Rattle.words.proofs.Turns.{offsets_of}
use Rattle.chunks.specs.Chunks.{per_chunk, offset_of, end_within}
use Rattle.chunks.specs.Cursors.{ahead, Stands, start_cursor, readied, past}
use Rattle.chunks.specs.declared.ChunkCursor.{ChunkCursor}
use Rattle.chunks.proofs.Cursors.{start_samples, Same, ready_same, no_samples, ahead_some}
use Rattle.chunk_ends.proofs.RunEnds.{run_then}

-- ---- what the whole tables say

-- o is stco or co64, zs are the sizes
pub whole_tables : (limit : ℕ) (c o z : List ℕ) {chunks : ℕ} {long : Bool} {part zs : List ℕ} → chunks ≡ u32_at o 12 → long ≡ eqb (kind_of o) co64 → part ≡ drop 16 o → zs ≡ sizes z →
    {r : Bool} → r ≡ end_within limit (per_chunk c chunks) (numbers_in (width_of long) part) zs → r ≡ end_within limit (per_chunk c (u32_at o 12)) (chunk_offsets o) (sizes z)
whole_tables limit c o z k l p q e = e ∙ rw (k, q, offsets_of o l p)

-- ---- the walk

-- c stands before a chunk if one is ahead; what the chunks ahead, the offsets cs and the sizes zs say is what the whole says
pub record Ending (limit : ℕ) (s : List ℕ) (chunks : ℕ) (cs zs : List ℕ) (whole : Bool) (c : ChunkCursor) : Type 0 where
  pub stands : Stands s c
  pub same : end_within limit (ahead s chunks c) cs zs ≡ whole

-- before the first chunk
module _ (limit : ℕ) (s : List ℕ) (chunks : ℕ) (cs zs : List ℕ) {i r : ChunkCursor} (a : i ≡ start_cursor) (e : r ≡ readied s chunks i) where
  started : Same s chunks start_cursor r
  started = rw (e, a) (ready_same s chunks start_cursor)

  pub ending_start : Ending limit s chunks cs zs (end_within limit (per_chunk s chunks) cs zs) r
  ending_start = record { stands = started.stands; same = rw (started.samples, start_samples s chunks) }

  pub start_length : length (ahead s chunks r) ≡ length (per_chunk s chunks)
  start_length = ap length (started.samples ∙ start_samples s chunks)

module _ {limit : ℕ} {s : List ℕ} {chunks : ℕ} {cs zs : List ℕ} {whole : Bool} {c : ChunkCursor} (w : Ending limit s chunks cs zs whole c) where
  -- no chunk is ahead
  pub ended : c.remaining ≡ 0 → whole ≡ true
  ended z = sym w.same ∙ rw (no_samples chunks w.stands z)

  -- n chunks of a run are ahead
  module _ (n : ℕ) (h : n ≤ c.remaining) where
    opened : {within : Bool} → within ≡ end_within limit (replicate n c.per) cs zs →
        whole ≡ cond within (end_within limit (ahead s chunks (past n c)) (drop n cs) (drop (n * c.per) zs)) false
    opened b = sym w.same ∙ rw (ahead_some s chunks c n h, b) (run_then limit n c.per (ahead s chunks (past n c)) cs zs)

    -- one of them ends past the limit
    pub ends_past : {within : Bool} → within ≡ end_within limit (replicate n c.per) cs zs → within ≡ false → whole ≡ false
    ends_past b z = opened b ∙ rw z

    -- r is the cursor readied past them
    module _ {i r : ChunkCursor} (a : i ≡ past n c) (e : r ≡ readied s chunks i) where
      again : Same s chunks (past n c) r
      again = rw (e, a) (ready_same s chunks (past n c))

      pub ending_length : length (ahead s chunks c) ≡ n + length (ahead s chunks r)
      ending_length = ap length (ahead_some s chunks c n h) ∙ length_run c.per (ahead s chunks (past n c)) n ∙ ap (λ (l : List ℕ). n + length l) (sym again.samples)

      -- they end within it; ds and ys are the offsets and sizes that follow
      pub ending_next : {within : Bool} → within ≡ end_within limit (replicate n c.per) cs zs → within ≡ true → {ds ys : List ℕ} → ds ≡ drop n cs → ys ≡ drop (n * c.per) zs →
          Ending limit s chunks ds ys whole r
      ending_next b z o p = record { stands = again.stands; same = rw (o, p, again.samples) (sym (opened b ∙ rw z)) }

negated : (b : Bool) → not b ≡ cond b false true
negated true = refl
negated false = refl

-- one chunk: its offset, its bytes, and whether they pass the limit
pub one_asked : (limit per : ℕ) (cs zs : List ℕ) {base bytes : ℕ} {over : Bool} → base ≡ get_or cs 0 0 → bytes ≡ sum (take per zs) → over ≡ ltb limit (base + bytes) →
    not over ≡ end_within limit (replicate 1 per) cs zs
one_asked limit per cs zs b s e = rw (e, b, s) (negated (ltb limit (get_or cs 0 0 + sum (take per zs))))

-- ---- the sentence: each chunk's offset plus the sizes of its samples is within the limit

abbrev pub Within : ℕ → List ℕ → List ℕ → List ℕ → Type 0
Within limit ps cs zs = (k : ℕ) → k < length ps → get_or cs k 0 + between zs (before ps k) (before ps k + get_or ps k 0) ≤ limit

second : (cs : List ℕ) (k : ℕ) → get_or (drop 1 cs) k 0 ≡ get_or cs (suc k) 0
second [] k = refl
second (x ∷ cs) k = refl

-- the sizes of a chunk after the first, from the second chunk's samples on
later : (p : ℕ) (ps zs : List ℕ) (k : ℕ) →
    between (drop p zs) (before ps k) (before ps k + get_or ps k 0) ≡ between zs (p + before ps k) (p + before ps k + get_or ps k 0)
later p ps zs k =
    let e : before ps k + get_or ps k 0 - before ps k ≡ p + before ps k + get_or ps k 0 - (p + before ps k) = omega arith in
    rw (e, drop-drop)

first_sum : (p : ℕ) (zs : List ℕ) → between zs 0 (0 + p) ≡ sum (take p zs)
first_sum p zs = let e : 0 + p - 0 ≡ p = omega arith in ap (λ (k : ℕ). sum (take k zs)) e

pub all_within : (limit : ℕ) (ps cs zs : List ℕ) → end_within limit ps cs zs ≡ true → Within limit ps cs zs
all_within limit [] cs zs e k h = absurd (omega arith)
all_within limit (p ∷ ps) cs zs e zero h =
    omega (arith, ltb-false limit (get_or cs 0 0 + sum (take p zs)) (cond_unless (ltb limit (get_or cs 0 0 + sum (take p zs))) _ e).0, first_sum p zs)
all_within limit (p ∷ ps) cs zs e (suc k) h =
    let t = all_within limit ps (drop 1 cs) (drop p zs) (cond_unless (ltb limit (get_or cs 0 0 + sum (take p zs))) _ e).1 k (omega arith) in
    omega (arith, t, second cs k, later p ps zs k)

pub within_all : (limit : ℕ) (ps cs zs : List ℕ) → Within limit ps cs zs → end_within limit ps cs zs ≡ true
within_all limit [] cs zs w = refl
within_all limit (p ∷ ps) cs zs w =
    let h : get_or cs 0 0 + sum (take p zs) ≤ limit = omega (arith, w 0 (omega arith), first_sum p zs) in
    rw (le-ltb limit (get_or cs 0 0 + sum (take p zs)) h)
    (within_all limit ps (drop 1 cs) (drop p zs) (λ k l. omega (arith, w (suc k) (omega arith), second cs k, later p ps zs k)))

-- so each sample ends within it too: its size and those before it in the chunk are among the chunk's
pub sample_within : (limit : ℕ) (ps cs zs : List ℕ) (i : ℕ) → Within limit ps cs zs → i < sum ps → offset_of ps cs zs i + get_or zs i 0 ≤ limit
unfolding offset_of
sample_within limit ps cs zs i w h =
    let k = holder ps i in
    let q = holder_holds ps i h in
    let b = before ps k in
    let e = b + get_or ps k 0 in
    let one : between zs i (suc i) ≡ get_or zs i 0 = between_one zs i in
    omega (
      arith,
      w k (holds_below ps i k q).1,
      q.from,
      q.to,
      between_split zs b i e q.from (omega (arith, q.to)),
      between_split zs i (suc i) e (omega arith) q.to,
      one,
    )
