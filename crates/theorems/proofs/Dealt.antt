-- Samples dealt to chunks, as lists: a chunk gets a sample exactly if its width holds the sample's index.
-- Assumes nothing.
use Prim.Native.Nat.{ℕ, suc, ◌-◌, ◌<◌}
use mathlib.Core.Path.{◌≡◌, ap}
use mathlib.Core.List.{List}
use native.Mathlib.Omega.{arith}
use lib.ListN.{get_or}
use Rattle.lists.specs.Lists.{sum, before, holder, Holds}
use Rattle.lists.proofs.Places as places
use Rattle.theorems.specs.Demand.{DealtTo}

pub gets_of : (ps : List ℕ) (i k c n : ℕ) → c ≡ suc k → n ≡ suc i → Holds ps i k → DealtTo ps c n
gets_of ps i k c n d e h =
    let b : c - 1 ≡ k = omega arith in
    record {
      first = omega arith;
      last = omega (arith, (places.holds_below ps i k h).1);
      after = rw b (omega (arith, h.from));
      upto = rw (d, e) (omega (arith, h.to, places.before_suc ps k));
    }

pub gets_only : (ps : List ℕ) (i c n : ℕ) → n ≡ suc i → DealtTo ps c n → c ≡ suc (holder ps i)
gets_only ps i c n e g =
    let d : suc (c - 1) ≡ c = omega (arith, g.first) in
    let h : c - 1 ≡ holder ps i = places.holder_only ps i (c - 1) (record {
      from = omega (arith, g.after);
      to = omega (arith, g.upto, ap (before ps) d, places.before_suc ps (c - 1));
    }) in
    omega (arith, g.first)

-- the first sample of the chunk with index k, which has one, is a sample
pub first_low : (ps : List ℕ) (k : ℕ) → 0 < get_or ps k 0 → before ps k < sum ps
first_low ps k h = omega (arith, places.before_suc ps k, places.before_le ps (suc k))
