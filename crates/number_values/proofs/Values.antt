-- The values that a loop stores, one turn after the other.
-- Assumes nothing.
use mathlib.Core.Path.{◌≡◌, refl, ap}
use mathlib.Core.List.{List}
use Prim.Native.Nat.{ℕ, zero, suc, ◌+◌, ◌-◌, ◌<◌, ◌≤◌}
use native.Mathlib.Omega.{arith}
use native.Mathlib.Numerals.{add-one}
use lib.ListN.{length, get_or, set}
use lib.Seq.{sets}
use Rattle.leb128.specs.Reading.{NumberRead, limit, read_at}
use Rattle.std.specs.Prelude.{Ok, Err, map, ◌++◌}
use Rattle.std.proofs.lemmas.List.{map-id}
use Rattle.leb128.proofs.Groups.{limit_pos}
use Rattle.leb128.proofs.Readings.{read_written}
use Rattle.number_values.specs.Values.{value_of, next_of, values_from}

pub length_values : (k top : ℕ) (bs : List ℕ) (c at : ℕ) → length (values_from k top bs c at) ≡ c
unfolding values_from
length_values k top bs zero at = refl
length_values k top bs (suc c) at = ap suc (length_values k top bs c (next_of at (read_at k top bs at)))

-- a value is below the limit
pub value_below : (k top : ℕ) (bs : List ℕ) (at : ℕ) → 0 < top → top ≤ 128 → ((x : ℕ) → get_or bs x 0 < 256) → value_of (read_at k top bs at) < limit k top
value_below k top bs at p t are = go (read_at k top bs at) refl
  where
    go : (r : NumberRead) → read_at k top bs at ≡ r → value_of r < limit k top
    go (Ok got) q = (read_written top bs at k got.value got.next p t are q).below
    go (Err fault) q = limit_pos k top p

-- one turn of the loop that stores
pub fill_turn : {A : Type 0} (stored : ℕ → A) (k top : ℕ) (bs : List ℕ) (out : List A) (j n p : ℕ) → j < n
    → sets out j (map stored (values_from k top bs (n - j) p))
    ≡ sets (set out j (stored (value_of (read_at k top bs p)))) (j + 1) (map stored (values_from k top bs (n - (j + 1)) (next_of p (read_at k top bs p))))
unfolding values_from
fill_turn stored k top bs out j n p h =
    let s : n - j ≡ suc (n - (j + 1)) = omega arith in
    rw (s, add-one)

-- room that holds numbers as they are
pub stored_same : (xs more room : List ℕ) → room ≡ map (λ (n : ℕ). n) xs ++ more → room ≡ xs ++ more
stored_same xs more room e = rw map-id at e
