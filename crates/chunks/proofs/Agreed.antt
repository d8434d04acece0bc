-- What follows once stsc agrees with the chunks and the descriptions: a number for each chunk, each in its range; and with as many samples as are dealt,
-- each sample lies in exactly one chunk.
-- Assumes nothing.
use Prim.Native.Nat.{ℕ, ◌+◌, ◌-◌, ◌≤◌, ◌<◌}
use mathlib.Core.Path.{◌≡◌}
use mathlib.Core.Bool.{true}
use mathlib.Core.List.{List, [], ◌∷◌}
use native.Mathlib.Nat.{zero-add}
use native.Mathlib.Omega.{arith}
use native.Mathlib.Decide.{dec_lt}
use lib.ListN.{length, get_or}
use Rattle.lists.specs.Lists.{sum, holder, Holds}
use Rattle.lists.proofs.Laws.{length_run, get_or_in, get_or_past}
use Rattle.lists.proofs.Places.{holder_holds, holder_only, holds_below}
use Rattle.chunks.specs.Chunks.{Deal, deals, first_of, dealt, per_chunk, description_ids}
use Rattle.chunks.specs.Computed.{dealing, deals_agree}
use Rattle.chunks.proofs.Clauses.{Right, dealing_cons, agreed}

module _ (chunks descriptions : ℕ) where
  dealt_length : (f : Deal → ℕ) (es : List Deal) → dealing chunks descriptions es ≡ true → length (dealt f chunks es) + first_of chunks es ≡ chunks + 1
  dealt_length f [] q = zero-add _
  dealt_length f (e ∷ es) q =
      let t = dealing_cons chunks descriptions e es q in
      omega (arith, length_run (f e) (dealt f chunks es) (first_of chunks es - e.first), dealt_length f es t.1, t.0.some)

  -- what is so of each entry's number is so of each chunk's
  dealt_all : (P : ℕ → Type 0) (f : Deal → ℕ) → ((e : Deal) (next : ℕ) → Right e.first next e.per e.id descriptions → P (f e)) →
      (es : List Deal) → dealing chunks descriptions es ≡ true → (k : ℕ) → k < length (dealt f chunks es) → P (get_or (dealt f chunks es) k 0)
  dealt_all P f g [] q k h = absurd (omega arith)
  dealt_all P f g (e ∷ es) q k h =
      let t = dealing_cons chunks descriptions e es q in
      let n = first_of chunks es - e.first in
      elim (dec_lt k n) [
        | yes l ↦ rw (get_or_in (f e) (dealt f chunks es) n k l) (g e (first_of chunks es) t.0)
        | no l ↦
            let m : n ≤ k = omega arith in
            rw (get_or_past (f e) (dealt f chunks es) n k m) (dealt_all P f g es t.1 (k - n) (omega (arith, length_run (f e) (dealt f chunks es) n)))
      ]

module _ (s : List ℕ) (chunks descriptions : ℕ) (a : deals_agree s chunks descriptions ≡ true) where
  pub samples_length : length (per_chunk s chunks) ≡ chunks
  unfolding per_chunk
  samples_length = let t = agreed s chunks descriptions a in omega (arith, dealt_length chunks descriptions (λ e. e.per) (deals s) t.1, t.0)

  pub ids_length : length (description_ids s chunks) ≡ chunks
  unfolding description_ids
  ids_length = let t = agreed s chunks descriptions a in omega (arith, dealt_length chunks descriptions (λ e. e.id) (deals s) t.1, t.0)

  -- each chunk has a sample
  pub samples_some : (k : ℕ) → k < chunks → 0 < get_or (per_chunk s chunks) k 0
  unfolding per_chunk
  samples_some k h =
      dealt_all chunks descriptions (λ (n : ℕ). 0 < n) (λ e. e.per) (λ e next r. r.full) (deals s) (agreed s chunks descriptions a).1 k (omega (arith, samples_length))

  -- each chunk's ID is one of the descriptions, from 1
  pub ids_known : (k : ℕ) → k < chunks → (1 ≤ get_or (description_ids s chunks) k 0) × (get_or (description_ids s chunks) k 0 ≤ descriptions)
  unfolding description_ids
  ids_known k h =
      dealt_all chunks descriptions (λ (n : ℕ). (1 ≤ n) × (n ≤ descriptions)) (λ e. e.id) (λ e next r. (r.named, r.known)) (deals s) (agreed s chunks descriptions a).1 k (omega (arith, ids_length))

  -- with n samples dealt, sample i lies in chunk `holder ..`, and in no other
  module _ (n : ℕ) (d : sum (per_chunk s chunks) ≡ n) (i : ℕ) (h : i < n) where
    pub in_chunk : Holds (per_chunk s chunks) i (holder (per_chunk s chunks) i)
    in_chunk = holder_holds (per_chunk s chunks) i (omega arith)

    pub chunk_below : holder (per_chunk s chunks) i < chunks
    chunk_below = omega (arith, (holds_below (per_chunk s chunks) i (holder (per_chunk s chunks) i) in_chunk).1, samples_length)

    pub in_only : (k : ℕ) → Holds (per_chunk s chunks) i k → k ≡ holder (per_chunk s chunks) i
    in_only k = holder_only (per_chunk s chunks) i k
