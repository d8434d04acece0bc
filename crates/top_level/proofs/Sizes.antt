-- The size that a header tells, case by case; it never passes the file's end.
-- Assumes nothing.
use Prim.Native.Nat.{ℕ, ◌≤◌, ◌<◌}
use mathlib.Core.Path.{◌≡◌, refl}
use mathlib.Core.List.{List}
use mathlib.Core.Bool.{Bool, true, false, cond, ◌&&◌}
use lib.ListN.{length}
use lib.Dec.{leb}
use borrow.Author.Tests.{leb-true, lt-ltb, le-ltb, eq-eqb, ne_eqb}
use native.Mathlib.Omega.{arith}
use Rattle.lists.proofs.Booleans.{and_right}
use Rattle.bigendian.specs.BigEndian.{u32_at, u64_at}
use Rattle.top_level.specs.Steps.{within, size_ahead}

fit_le : (b : Bool) (z rest : ℕ) → (b ≡ true → z ≤ rest) → cond b z 0 ≤ rest
fit_le true z rest f = f refl
fit_le false z rest f = omega arith

within_le : (least z rest : ℕ) → within least z rest ≤ rest
unfolding within
within_le least z rest = fit_le (leb least z && leb z rest) z rest (λ e. leb-true z rest (and_right (leb least z) _ e))

module _ (rest : ℕ) (h : List ℕ) where
  -- r is that size
  abbrev pub Ahead : ℕ → Type 0
  Ahead r = record { value : r ≡ size_ahead rest h; upper_bound : r ≤ rest }

  pub ahead_few : rest < 8 → Ahead 0
  unfolding size_ahead
  ahead_few g = record { value = rw (lt-ltb rest 8 g); upper_bound = omega arith }

  module _ (g : 8 ≤ rest) where
    pub ahead_short : length h < 8 → Ahead 0
    unfolding size_ahead
    ahead_short l = record { value = rw (le-ltb rest 8 g, lt-ltb (length h) 8 l); upper_bound = omega arith }

    module _ (l : 8 ≤ length h) (z : ℕ) (e : z ≡ u32_at h 0) where
      pub ahead_all : z ≡ 0 → Ahead rest
      unfolding size_ahead
      ahead_all n = record { value = rw (le-ltb rest 8 g, le-ltb (length h) 8 l, ← e, eq-eqb z 0 n); upper_bound = omega arith }

      pub ahead_plain : (z ≡ 0 → ⊥) → (z ≡ 1 → ⊥) → (r : ℕ) → r ≡ within 8 z rest → Ahead r
      unfolding size_ahead
      ahead_plain m n r q = record { value = rw (le-ltb rest 8 g, le-ltb (length h) 8 l, ← e, ne_eqb z 0 m, ne_eqb z 1 n) q; upper_bound = rw q (within_le 8 z rest) }

      pub ahead_cut : z ≡ 1 → length h < 16 → Ahead 0
      unfolding size_ahead
      ahead_cut n k = record { value = rw (le-ltb rest 8 g, le-ltb (length h) 8 l, ← e, n, lt-ltb (length h) 16 k); upper_bound = omega arith }

      pub ahead_wide : z ≡ 1 → 16 ≤ length h → (y r : ℕ) → y ≡ u64_at h 8 → r ≡ within 16 y rest → Ahead r
      unfolding size_ahead
      ahead_wide n k y r d q =
          record { value = rw (le-ltb rest 8 g, le-ltb (length h) 8 l, ← e, n, le-ltb (length h) 16 k, ← d) q; upper_bound = rw q (within_le 16 y rest) }
