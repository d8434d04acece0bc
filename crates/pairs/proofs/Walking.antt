-- A walk over the chunks of a stretch, place after place: the pair at a place, and the pairs from the next place on.
-- Assumes nothing.
use Prim.Native.Nat.{ℕ, zero, suc, ◌+◌, ◌*◌, ◌-◌, ◌^◌, ◌≤◌, ◌<◌, min, max}
use mathlib.Core.Path.{◌≡◌, refl, sym, ap, subst, ◌∙◌}
use mathlib.Core.Bool.{Bool, true, false, ◌||◌}
use mathlib.Core.List.{List, [], ◌∷◌, ◌++◌}
use native.Mathlib.Nat.{suc-mul}
use native.Mathlib.Omega.{arith}
use native.Mathlib.Decide.{ℕ_discrete, dec_lt}
use borrow.Author.Tests.{eqb-true, eqb-false, leb-true, leb-false, ne_eqb}
use lib.ListN.{length, get_or, take, drop, replicate, length-drop}
use lib.Seq.{take-add, drop-drop, get_or-drop}
use lib.Dec.{eqb, leb}
use Rattle.lists.specs.Lists.{sum, before, between, holder}
use Rattle.lists.proofs.Laws.{sum_append, holder_miss, length_run, before_in}
use Rattle.lists.proofs.Places.{holder_holds}
use Rattle.lists.proofs.Booleans.{or_both}
use Rattle.words.specs.Words.{sizes, chunk_offsets}
use Rattle.chunks.specs.Chunks.{per_chunk}
use Rattle.chunks.specs.Cursors.{ahead, readied, past, sought}
use Rattle.chunks.specs.declared.ChunkCursor.{ChunkCursor}
use Rattle.chunks.specs.declared.Sought.{Sought}
use Rattle.chunks.proofs.Cursors.{Same, ready_same, ready_valid, past_valid, no_samples, ahead_cons, stands_at}
use Rattle.chunks.proofs.Finding.{finds, before_holder}
use Rattle.pairs.specs.Pairs.{pair_of}
use Rattle.pairs.specs.Walks.{pairs_between, pairs_ahead, At, place_after, place_past, StartsAt, AtOnce, pairs_at_once}
use Rattle.pairs.specs.declared.Pair.{Pair}
use Rattle.pairs.specs.declared.ChunkPosition.{ChunkPosition}
use Rattle.pairs.proofs.Touched.{is-touched, touched_none, touched_skip}
use Rattle.pairs.proofs.Wholes.{whole_touched}

-- a width that is found is one of them, and holds the number
short_holds : (ds : List ℕ) (t : ℕ) → holder ds t < length ds → t < sum ds
short_holds [] t h = absurd (omega arith)
short_holds (d ∷ ds) t h = elim (dec_lt t d) [
  | yes l ↦ omega arith
  | no l ↦
      let g : d ≤ t = omega arith in
      let k : suc (holder ds (t - d)) < suc (length ds) = rw (holder_miss d ds t g) at h in
      omega (arith, short_holds ds (t - d) (omega arith))
]

-- ---- a pair and a place, as they are made

pub pair_made : (i j begin per c : ℕ) (zs : List ℕ) (end first b n o : ℕ) → end ≡ min j (begin + per) → first ≡ max i begin → b ≡ between zs begin first → n ≡ between zs first end → o ≡ c
    → ◌≡◌ {A = Pair} (record { offset = o + b; length = n }) (pair_of i j begin per c zs)
unfolding pair_of
pair_made i j begin per c zs end first b n o e f g h k = rw (k, g, h, f, e)

pub offset_fits : (i j begin per c : ℕ) (zs : List ℕ) (first b o : ℕ) → first ≡ max i begin → b ≡ between zs begin first → o ≡ c → (pair_of i j begin per c zs).offset < 2 ^ 64 → o + b < 2 ^ 64
unfolding pair_of
offset_fits i j begin per c zs first b o e f g h = rw (g, f, e) h

pub place_made : (stsc : List ℕ) (chunks n : ℕ) (p : ChunkPosition) (k b : ℕ) (c r : ChunkCursor) → c ≡ past n p.cursor → r ≡ readied stsc chunks c
    → ◌≡◌ {A = ChunkPosition} (record { cursor = r; chunk = k; begin = b }) (record { cursor = readied stsc chunks (past n p.cursor); chunk = k; begin = b })
place_made stsc chunks n p k b c r e f = rw (f, e)

pub past_fits : (begin n per : ℕ) → per < 2 ^ 32 → begin < 2 ^ 32 → ((n ≡ 1 → ⊥) → begin + n * per < 2 ^ 32) → begin + n * per < 2 ^ 64
past_fits begin n per h g f = elim (ℕ_discrete n 1) [
  | yes z ↦ let e : n * per ≡ 1 * per = ap (λ k. k * per) z in omega arith
  | no z ↦ omega (arith, f z)
]

-- ---- the first place

pub starts : (stsc : List ℕ) (chunks i : ℕ) (f : Sought) (c : ChunkCursor) (b : ℕ) → f ≡ sought stsc chunks i → c ≡ f.cursor → b ≡ i - f.within
    → StartsAt stsc chunks i (record { cursor = c; chunk = f.chunk; begin = b })
starts stsc chunks i f c b o e d =
    let w = finds o in
    let ps = per_chunk stsc chunks in
    let k = holder ps i in
    let q : b ≡ before ps k = omega (arith, w.start, before_holder ps i) in
    record {
      place = w.place;
      at = record {
        valid = rw e w.valid;
        stands = rw e w.stands;
        begins = q ∙ ap (before ps) (sym w.place);
        reaches = λ n.
            let r : 0 < f.cursor.remaining = rw e at (positive n) in
            let v = (stands_at stsc chunks f.cursor r w.valid).0 in
            let l : length (ahead stsc chunks f.cursor) ≡ length (drop f.chunk ps) = ap length w.valid.samples in
            let m : k < length ps = omega (arith, ap length (ahead_cons stsc chunks f.cursor r), l, length-drop f.chunk ps, w.place) in
            let g = holder_holds ps i (short_holds ps i m) in
            let u : get_or ps k 0 ≡ c.per = ap (λ x. get_or ps x 0) (sym w.place) ∙ v ∙ ap (λ x. x.per) (sym e) in
            omega (arith, g.to);
      };
    }
  where
    positive : (c.remaining ≡ 0 → ⊥) → 0 < c.remaining
    positive n = omega arith

-- ---- at a place

-- the first n chunks of a run by themselves
replicate_cut : (n m v : ℕ) (r : List ℕ) → n ≤ m → replicate m v ++ r ≡ replicate n v ++ (replicate (m - n) v ++ r)
replicate_cut zero m v r h = let e : m ≡ m - 0 = omega arith in ap (λ (k : ℕ). replicate k v ++ r) e
replicate_cut (suc n) zero v r h = absurd (omega arith)
replicate_cut (suc n) (suc m) v r h =
    let e : m - n ≡ suc m - suc n = omega arith in
    ap (λ l. v ∷ l) (replicate_cut n m v r (omega arith) ∙ ap (λ (k : ℕ). replicate n v ++ (replicate k v ++ r)) e)

run_cut : (s : List ℕ) (chunks : ℕ) (c : ChunkCursor) (n : ℕ) → n ≤ c.remaining → ahead s chunks c ≡ replicate n c.per ++ ahead s chunks (past n c)
unfolding ahead
run_cut s chunks c n h = replicate_cut n c.remaining c.per _ h

at_least : (n v : ℕ) → 0 < n → v ≤ n * v
at_least zero v h = absurd (omega arith)
at_least (suc n) v h = omega (arith, suc-mul n v)

one_past : (stsc : List ℕ) (chunks : ℕ) (p : ChunkPosition) → place_past stsc chunks 1 p ≡ place_after stsc chunks p
one_past stsc chunks p =
    let e : p.begin + 1 * p.cursor.per ≡ p.begin + p.cursor.per = omega arith in
    λ k. record { cursor = readied stsc chunks (past 1 p.cursor); chunk = p.chunk + 1; begin = e k }

module _ (stsc stsz offsets : List ℕ) (chunks i j : ℕ) (p : ChunkPosition) (w : At stsc chunks i p) where
  -- no pair lies ahead
  pub at_end : (eqb p.cursor.remaining 0 || leb j p.begin) ≡ true → pairs_ahead stsc stsz offsets chunks i j p ≡ []
  at_end e = go (eqb p.cursor.remaining 0) refl e
    where
      go : (b : Bool) → eqb p.cursor.remaining 0 ≡ b → (b || leb j p.begin) ≡ true → pairs_ahead stsc stsz offsets chunks i j p ≡ []
      go true q h = rw (no_samples chunks w.stands (eqb-true _ _ q))
      go false q h = touched_none i j p.begin (ahead stsc chunks p.cursor) (drop p.chunk (chunk_offsets offsets)) (sizes stsz) (leb-true _ _ h)

  -- a pair does
  module _ (e : (eqb p.cursor.remaining 0 || leb j p.begin) ≡ false) where
    pub some_remain : p.cursor.remaining ≡ 0 → ⊥
    some_remain = eqb-false _ _ (or_both _ _ e).0

    pub begins_low : p.begin < j
    begins_low = leb-false j p.begin (or_both (eqb p.cursor.remaining 0) _ e).1

    remains : 0 < p.cursor.remaining
    remains = let n = some_remain in omega arith

    -- n chunks further on in the same run
    module _ (n : ℕ) (h : n ≤ p.cursor.remaining) where
      past_same : Same stsc chunks (past n p.cursor) (readied stsc chunks (past n p.cursor))
      past_same = ready_same stsc chunks (past n p.cursor)

      pub past_opened : ahead stsc chunks p.cursor ≡ replicate n p.cursor.per ++ ahead stsc chunks (place_past stsc chunks n p).cursor
      past_opened = run_cut stsc chunks p.cursor n h ∙ ap (λ l. replicate n p.cursor.per ++ l) (sym past_same.samples)

      past_length : length (ahead stsc chunks p.cursor) ≡ n + length (ahead stsc chunks (place_past stsc chunks n p).cursor)
      past_length = ap length past_opened ∙ length_run p.cursor.per (ahead stsc chunks (place_past stsc chunks n p).cursor) n

      -- they are some of the chunks
      pub past_chunk : 0 < n → p.chunk + n ≤ length (per_chunk stsc chunks)
      past_chunk g = omega (arith, past_length, ap length w.valid.samples, length-drop p.chunk (per_chunk stsc chunks))

      pub past_less : 0 < n → length (ahead stsc chunks (place_past stsc chunks n p).cursor) < length (ahead stsc chunks p.cursor)
      past_less g = omega (arith, past_length)

      -- the sample does not lie behind them
      pub past_from : 0 < n → {r : ChunkPosition} → r ≡ place_past stsc chunks n p → i ≤ r.begin
      past_from g o = rw o (omega (arith, w.reaches some_remain, at_least n p.cursor.per g))

      past_begins : p.begin + n * p.cursor.per ≡ before (per_chunk stsc chunks) (p.chunk + n)
      past_begins =
          let ps = per_chunk stsc chunks in
          let l = ahead stsc chunks (place_past stsc chunks n p).cursor in
          omega (
            arith,
            w.begins,
            ap sum (take-add p.chunk n ps) ∙ sum_append (take p.chunk ps) (take n (drop p.chunk ps)),
            ap (λ r. before r n) (sym w.valid.samples ∙ past_opened) ∙ before_in p.cursor.per l n n (omega arith),
          )

      pub at_past : 0 < n → At stsc chunks i (place_past stsc chunks n p)
      at_past g = record {
        valid = ready_valid stsc chunks (past_valid stsc chunks p.cursor n h w.valid);
        stands = past_same.stands;
        begins = past_begins;
        reaches = λ z. omega (arith, w.reaches some_remain, at_least n p.cursor.per g);
      }

    -- and one, which is the next
    opened : ahead stsc chunks p.cursor ≡ p.cursor.per ∷ ahead stsc chunks (place_after stsc chunks p).cursor
    opened = past_opened 1 remains

    pub at_less : length (ahead stsc chunks (place_after stsc chunks p).cursor) < length (ahead stsc chunks p.cursor)
    at_less = past_less 1 remains (omega arith)

    pub at_again : At stsc chunks i (place_after stsc chunks p)
    at_again = subst (At stsc chunks i) (one_past stsc chunks p) (at_past 1 remains (omega arith))

    -- its chunk is one of the chunks
    pub at_chunk : p.chunk < length (per_chunk stsc chunks)
    at_chunk = omega (arith, past_chunk 1 remains (omega arith))

    pub at_next : pairs_ahead stsc stsz offsets chunks i j p
        ≡ pair_of i j p.begin p.cursor.per (get_or (chunk_offsets offsets) p.chunk 0) (sizes stsz) ∷ pairs_ahead stsc stsz offsets chunks i j (place_after stsc chunks p)
    at_next =
        let cs = chunk_offsets offsets in
        let z : p.chunk + 0 ≡ p.chunk = omega arith in
        let g : get_or (drop p.chunk cs) 0 0 ≡ get_or cs p.chunk 0 = get_or-drop p.chunk cs 0 0 ∙ ap (λ (k : ℕ). get_or cs k 0) z in
        rw (opened, is-touched i j p.begin p.cursor.per begins_low (w.reaches some_remain), g, drop-drop)

    -- the pairs of the chunks that are put at once, and those from the place past them on
    pub at_once : (n : ℕ) → AtOnce stsz offsets i j p n → pairs_ahead stsc stsz offsets chunks i j p ≡ pairs_at_once stsz offsets i j p n ++ pairs_ahead stsc stsz offsets chunks i j (place_past stsc chunks n p)
    at_once n o = elim (ℕ_discrete n 1) [
      | yes z ↦ rw z (at_next ∙ ap (λ q. pair_of i j p.begin p.cursor.per (get_or (chunk_offsets offsets) p.chunk 0) (sizes stsz) ∷ pairs_ahead stsc stsz offsets chunks i j q) (sym (one_past stsc chunks p)))
      | no z ↦
          let cs = chunk_offsets offsets in
          let v = o.whole z in
          let l : n ≤ length (drop p.chunk cs) = omega (arith, v.there, length-drop p.chunk cs) in
          rw (ne_eqb n 1 z, past_opened n o.few) (
          whole_touched i j p.begin n p.cursor.per (ahead stsc chunks (place_past stsc chunks n p).cursor) (drop p.chunk cs) (sizes stsz) v.from (w.reaches some_remain) (λ _. begins_low) v.to l
          ∙ rw (drop-drop n p.chunk cs))
    ]

-- ---- from the first place on

pub from_start : (stsc stsz offsets : List ℕ) (chunks i j : ℕ) (p : ChunkPosition) → StartsAt stsc chunks i p → pairs_ahead stsc stsz offsets chunks i j p ≡ pairs_between stsc stsz offsets chunks i j
from_start stsc stsz offsets chunks i j p w =
    let ps = per_chunk stsc chunks in
    let z : i - 0 ≡ i = omega arith in
    let b : 0 + before ps (holder ps i) ≡ p.begin = omega (arith, w.at.begins, ap (before ps) w.place) in
    sym (rw (z, b, ← w.place, ← w.at.valid.samples) at (touched_skip i j 0 ps (chunk_offsets offsets) (sizes stsz) (omega arith)))
