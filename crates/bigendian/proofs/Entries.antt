-- A turn of a loop over the whole entries of a part: the entry that comes is the first of what is left, and its numbers are those that stand there.
-- Assumes nothing.
use Rattle.std.specs.Prelude.{Some, None}
use Rattle.std.specs.Slice.Iter.{chunks_exact_rest, chunks_exact_size, chunks_exact_steps}
use Rattle.std.specs.declared.slice.ChunksExact.{ChunksExact}
use Rattle.std.proofs.Math.Seq.{take-append_seam, drop-append_seam}
use Rattle.std.proofs.lemmas.List.{length-append}
use denote.Bor.{Bor}
use Prim.Native.Nat.{ℕ, ◌+◌, ◌≤◌, ◌<◌}
use mathlib.Core.Path.{◌≡◌, sym, ap, ◌∙◌}
use mathlib.Core.List.{List, ◌++◌}
use native.Mathlib.Omega.{arith}
use lib.ListN.{length, take, drop}
use Rattle.bigendian.specs.BigEndian.{u32_at}
use Rattle.bigendian.proofs.Laws.{be_at_take}

-- of the entries that s has left, each of w bytes, e comes and t has the others
pub record Comes (w : ℕ) (s t : ChunksExact ℕ) (e : List ℕ) : Type 0 where
  pub size : chunks_exact_size t ≡ w
  pub long : w ≤ length (chunks_exact_rest s)
  pub first : e ≡ take w (chunks_exact_rest s)
  pub rest : chunks_exact_rest t ≡ drop w (chunks_exact_rest s)

-- the whole part is left at the start
pub record Begins (w : ℕ) (s : ChunksExact ℕ) (part : List ℕ) : Type 0 where
  pub size : chunks_exact_size s ≡ w
  pub rest : chunks_exact_rest s ≡ part

pub begins : {w : ℕ} {s t : ChunksExact ℕ} {p part : List ℕ} → s ≡ t → chunks_exact_rest t ≡ p → chunks_exact_size t ≡ w → p ≡ part → Begins w s part
begins e r z q = record { size = ap chunks_exact_size e ∙ z; rest = ap chunks_exact_rest e ∙ r ∙ q }

module _ {w : ℕ} (s t : ChunksExact ℕ) (z : chunks_exact_size s ≡ w) where
  pub comes : (x : Bor (List ℕ)) → chunks_exact_steps s (Some x) t → Comes w s t x.now
  comes x h =
      let l : length x.now ≡ w = h.1.1 ∙ z in
      record {
        size = h.0 ∙ z;
        long = omega (arith, ap length h.1.0, length-append x.now (chunks_exact_rest t));
        first = sym (take-append_seam x.now (chunks_exact_rest t)) ∙ ap (λ (k : ℕ). take k (x.now ++ chunks_exact_rest t)) l ∙ ap (take w) (sym h.1.0);
        rest = sym (drop-append_seam x.now (chunks_exact_rest t)) ∙ ap (λ (k : ℕ). drop k (x.now ++ chunks_exact_rest t)) l ∙ ap (drop w) (sym h.1.0);
      }

  -- where none comes, what is left is no whole entry
  pub none_comes : chunks_exact_steps s None t → length (chunks_exact_rest s) < w
  none_comes h = omega (arith, h.1.0)

-- a number of the entry
pub entry_u32 : {w : ℕ} {s t : ChunksExact ℕ} {e : List ℕ} → Comes w s t e → (at : ℕ) → at + 4 ≤ w → u32_at e at ≡ u32_at (chunks_exact_rest s) at
entry_u32 {w} {s} c at h = ap (λ (l : List ℕ). u32_at l at) c.first ∙ be_at_take 4 w (chunks_exact_rest s) at h
