-- The length of a name, byte by byte.
-- Assumes nothing.
use Prim.Native.Nat.{ℕ, suc, ◌+◌, ◌≤◌, ◌<◌}
use mathlib.Core.Path.{◌≡◌}
use mathlib.Core.List.{List}
use native.Mathlib.Omega.{arith}
use lib.ListN.{length, get_or, drop, drop_of_length-le}
use lib.Seq.{drop-cons}
use borrow.Author.Tests.{eq-eqb, ne_eqb}
use Rattle.film_totals.specs.Names.{name_length}

module _ (l : List ℕ) (i : ℕ) where
  pub feed_here : i < length l → get_or l i 0 ≡ 10 → name_length (drop i l) ≡ 0
  feed_here h e = rw (drop-cons l i 0 h, eq-eqb (get_or l i 0) 10 e)

  pub feed_later : i < length l → (get_or l i 0 ≡ 10 → ⊥) → name_length (drop i l) ≡ suc (name_length (drop (i + 1) l))
  feed_later h n = let k : i + 1 ≡ suc i = omega arith in rw (drop-cons l i 0 h, ne_eqb (get_or l i 0) 10 n, k)

  pub no_feed : length l ≤ i → name_length (drop i l) ≡ 0
  no_feed h = rw (drop_of_length-le l {i = i} h)
