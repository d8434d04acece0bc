-- Samples dealt to chunks, as lists: the first sample of a chunk has the chunk's offset, and the next one of the same chunk begins where it ends.
-- Assumes nothing.
use Prim.Native.Nat.{ℕ, suc, ◌+◌, ◌-◌, ◌<◌}
use mathlib.Core.Path.{◌≡◌, sym, ap}
use mathlib.Core.List.{List}
use native.Mathlib.Omega.{arith}
use lib.ListN.{get_or, take, drop}
use Rattle.lists.specs.Lists.{sum, before, between, holder}
use Rattle.lists.proofs.Places.{holder_holds, holder_only, between_split, between_one}
use Rattle.chunks.specs.Chunks.{offset_of}

pub between_none : (zs : List ℕ) (i : ℕ) → between zs i i ≡ 0
between_none zs i = let e : i - i ≡ 0 = omega arith in ap (λ (k : ℕ). sum (take k (drop i zs))) e

-- the first sample of the chunk with index k, which has one
module _ (ps : List ℕ) (k : ℕ) (h : 0 < get_or ps k 0) where
  pub first_chunk : holder ps (before ps k) ≡ k
  first_chunk = sym (holder_only ps (before ps k) k (record { from = omega arith; to = omega arith }))

  pub first_offset : (cs zs : List ℕ) → offset_of ps cs zs (before ps k) ≡ get_or cs k 0
  unfolding offset_of
  first_offset cs zs = rw first_chunk (omega (arith, between_none zs (before ps k)))

-- a sample and the next one in the same chunk
pub next_offset : (ps cs zs : List ℕ) (i : ℕ) → i < sum ps → holder ps (suc i) ≡ holder ps i → offset_of ps cs zs (suc i) ≡ offset_of ps cs zs i + get_or zs i 0
unfolding offset_of
next_offset ps cs zs i h e =
    let b = before ps (holder ps i) in
    let l = (holder_holds ps i h).from in
    rw e (omega (arith, between_split zs b i (suc i) l (omega arith), between_one zs i))
