-- The eighth rule: one turn of the walk over the chunks, and its ways out.
-- Assumes nothing.
use Prim.Native.Nat.{ℕ, ◌+◌, ◌-◌, ◌*◌, ◌≤◌, ◌<◌, ◌^◌}
use mathlib.Core.Path.{◌≡◌, refl, sym, ap, ◌∙◌}
use mathlib.Core.Bool.{Bool, true, false, not, ◌&&◌, ◌||◌}
use mathlib.Core.List.{List, [], ◌∷◌}
use native.Mathlib.Omega.{arith}
use native.Mathlib.Decide.{dec_le}
use borrow.Author.Tests.{lt-ltb, le-ltb, le-leb, lt-leb}
use lib.Dec.{leb, eqb}
use lib.ListN.{length, get_or, take, drop}
use lib.Seq.{drop-drop}
use Rattle.bigendian.specs.BigEndian.{u32_at}
use Rattle.atoms.specs.Atoms.{kind_of}
use Rattle.atoms.specs.Kinds.{co64}
use Rattle.lists.specs.Lists.{sum, between}
use Rattle.words.specs.Words.{numbers_in, sizes, width_of, chunk_offsets}
use Rattle.words.proofs.Turns.{width_above, offsets_of, numbers_drop}
use Rattle.chunks.specs.Chunks.{per_chunk}
use Rattle.chunks.specs.Cursors.{ahead, Stands, start_cursor, readied, past}
use Rattle.chunks.specs.declared.ChunkCursor.{ChunkCursor}
use Rattle.chunks.proofs.Cursors.{start_samples, Same, ready_same, no_samples, ahead_cons}
use Rattle.chunk_order.specs.Order.{Extent, extents, follows, in_order, disordered}
use Rattle.chunk_order.specs.Walk.{extent, ordered_after}

-- ---- a chunk after another, with no sum

module _ (first : Bool) (a y b : ℕ) (f : first ≡ false) where
  pub not_past : b ≤ a → false ≡ (first || follows (extent a y) (extent b 0))
  not_past h = sym (rw (f, le-ltb a b h))

  pub past_end : a < b → leb y (b - a) ≡ (first || follows (extent a y) (extent b 0))
  past_end h = elim (dec_le y (b - a)) [
    | yes l ↦ let m : a + y ≤ b = omega arith in le-leb y (b - a) l ∙ sym (rw (f, lt-ltb a b h, le-leb (a + y) b m))
    | no l ↦ let m : b < a + y = omega arith in lt-leb y (b - a) (omega arith) ∙ sym (rw (f, lt-ltb a b h, lt-leb (a + y) b m))
  ]

-- ---- the walk: c stands before a chunk if one is ahead, `from` samples were dealt; what the chunks ahead say after the last one is what all say

pub record Ordering (s : List ℕ) (chunks : ℕ) (cs zs : List ℕ) (from : ℕ) (first : Bool) (offset bytes : ℕ) (whole : Bool) (c : ChunkCursor) : Type 0 where
  pub stands : Stands s c
  pub same : ordered_after first offset bytes (extents (ahead s chunks c) cs (drop from zs)) ≡ whole
  pub fits : from + sum (ahead s chunks c) < 2 ^ 32

-- before the first chunk; o is stco or co64
module _ (s o z : List ℕ) (g : sum (per_chunk s (u32_at o 12)) < 2 ^ 32) {chunks : ℕ} {long : Bool} {part : List ℕ} (k : chunks ≡ u32_at o 12)
    (l : long ≡ eqb (kind_of o) co64) (p : part ≡ drop 16 o) {i r : ChunkCursor} (a : i ≡ start_cursor) (e : r ≡ readied s chunks i) where
  started : Same s chunks start_cursor r
  started = rw (e, a) (ready_same s chunks start_cursor)

  samples_are : ahead s chunks r ≡ per_chunk s (u32_at o 12)
  samples_are = started.samples ∙ start_samples s chunks ∙ ap (per_chunk s) k

  pub ordering_start : Ordering s chunks (numbers_in (width_of long) part) (sizes z) 0 true 0 0 (in_order (extents (per_chunk s (u32_at o 12)) (chunk_offsets o) (sizes z))) r
  ordering_start = record {
    stands = started.stands;
    same = rw (samples_are, offsets_of o l p);
    fits = omega (arith, ap sum samples_are);
  }

module _ {s : List ℕ} {chunks : ℕ} {cs zs : List ℕ} {from : ℕ} {first : Bool} {offset bytes : ℕ} {whole : Bool} {c : ChunkCursor}
    (w : Ordering s chunks cs zs from first offset bytes whole c) where
  none_after : (b : Bool) → ordered_after b offset bytes ([]) ≡ true
  none_after true = refl
  none_after false = refl

  pub ordered : c.remaining ≡ 0 → whole ≡ true
  ordered z = sym w.same ∙ rw (no_samples chunks w.stands z) (none_after first)

  -- a chunk is ahead
  module _ (h : 0 < c.remaining) where
    sum_ahead : sum (ahead s chunks c) ≡ c.per + sum (ahead s chunks (past 1 c))
    sum_ahead = ap sum (ahead_cons s chunks c h)

    pub per_fits : from + c.per < 2 ^ 32
    per_fits = omega (arith, w.fits, sum_ahead)

    after_first : (b : Bool) (e : Extent) (es : List Extent) → ordered_after b offset bytes (e ∷ es) ≡ ((b || follows (extent offset bytes) (extent e.offset 0)) && in_order (e ∷ es))
    after_first true e es = refl
    after_first false e es = refl

    module _ {next : ℕ} {may : Bool} (n : next ≡ get_or cs 0 0) (m : may ≡ (first || follows (extent offset bytes) (extent next 0))) where
      opened : whole ≡ (may && in_order (extent next (sum (take c.per (drop from zs))) ∷ extents (ahead s chunks (past 1 c)) (drop 1 cs) (drop c.per (drop from zs))))
      opened = sym w.same ∙ rw (ahead_cons s chunks c h, m, n) (after_first first (extent (get_or cs 0 0) (sum (take c.per (drop from zs)))) (extents (ahead s chunks (past 1 c)) (drop 1 cs) (drop c.per (drop from zs))))

      pub breaks_order : may ≡ false → whole ≡ false
      breaks_order z = opened ∙ rw z

      -- r is the cursor readied past it; ds are the offsets that follow
      module _ {i r : ChunkCursor} (a : i ≡ past 1 c) (e : r ≡ readied s chunks i) where
        again : Same s chunks (past 1 c) r
        again = rw (e, a) (ready_same s chunks (past 1 c))

        pub ordering_less : length (ahead s chunks r) < length (ahead s chunks c)
        ordering_less = omega (arith, ap length again.samples, ap length (ahead_cons s chunks c h))

        pub ordering_next : may ≡ true → {to more : ℕ} {ds : List ℕ} → to ≡ from + c.per → more ≡ between zs from to → ds ≡ drop 1 cs
            → Ordering s chunks ds zs to false next more whole r
        ordering_next z {to} {more} {ds} q b d =
            let k : to - from ≡ c.per = omega arith in
            let y : drop to zs ≡ drop c.per (drop from zs) = ap (λ (j : ℕ). drop j zs) q ∙ sym (drop-drop c.per from zs) in
            let x : more ≡ sum (take c.per (drop from zs)) = b ∙ ap (λ (j : ℕ). sum (take j (drop from zs))) k in
            record {
              stands = again.stands;
              same = rw (again.samples, y, x, d) (sym (opened ∙ rw z));
              fits = omega (arith, w.fits, sum_ahead, ap sum again.samples);
            }

-- the offsets past one chunk's
pub next_offsets : (long : Bool) (t : List ℕ) {width : ℕ} {rest : List ℕ} → width ≡ width_of long → rest ≡ drop width t
    → numbers_in (width_of long) rest ≡ drop 1 (numbers_in (width_of long) t)
next_offsets long t {width} e p =
    let k : width_of long ≡ 1 * width_of long = omega arith in
    ap (numbers_in (width_of long)) (p ∙ ap (λ (n : ℕ). drop n t) (e ∙ k)) ∙ numbers_drop (width_of long) (width_above long) 1 t

pub not_ordered : (ps cs zs : List ℕ) {b : Bool} → in_order (extents ps cs zs) ≡ b → not b ≡ disordered ps cs zs
unfolding disordered
not_ordered ps cs zs e = ap not (sym e)
