-- Reading one number at a place, and where reading stops: past a good number, on a broken one's first byte, at the end for one cut short.
-- Over the width: at most k + 1 groups, and the last of k + 1 groups below top. `limit 4 16` is 2 ^ 32, `limit 9 2` is 2 ^ 64.
use Rattle.std.specs.Prelude.{Bool, cond, List, [], ◌∷◌, ℕ, zero, suc, ◌+◌, ◌-◌, ◌*◌, ltb, eqb, length, drop, Result, Ok, Err}
use Rattle.leb128.specs.declared.number.Number.{Number}
use Rattle.leb128.specs.declared.number.NumberFault.{NumberFault}
use Rattle.leb128.specs.declared.number.NumberFault.TheVariants.{Broken, Short}

-- how many numbers k + 1 groups write, if the last is below top
unfoldable pub limit : ℕ → ℕ → ℕ
limit zero top = top
limit (suc k) top = 128 * limit k top

-- what stands at the front of some bytes: a number and the count of its bytes, a number that is broken, or one that is cut short
pub data Reading : Type 0 where
  good : ℕ → ℕ → Reading
  broken : Reading
  short : Reading

-- the group b, with its top bit, before the rest of a number: a rest of 0 would be a byte too many
unfoldable pub after : ℕ → Reading → Reading
after b (good m len) = cond (eqb m 0) broken (good (b - 128 + 128 * m) (suc len))
after b broken = broken
after b short = short

-- the number at the front of the bytes
unfoldable pub number : ℕ → ℕ → List ℕ → Reading
number k top [] = short
number zero top (b ∷ bs) = cond (ltb b top) (good b 1) broken
number (suc k) top (b ∷ bs) = cond (ltb b 128) (good b 1) (after b (number k top bs))

-- what the reader answers of a place: a number and the place past it, or why none stands there
abbrev pub NumberRead : Type 0
NumberRead = Result Number NumberFault

abbrev pub found : ℕ → ℕ → NumberRead
found n next = Ok (record { value = n; next = next })

-- the place that a fault is charged to
abbrev pub place_of : NumberFault → ℕ
place_of (Broken p) = p
place_of (Short end) = end

unfoldable pub read_of : ℕ → ℕ → Reading → NumberRead
read_of end at (good n len) = found n (at + len)
read_of end at broken = Err (Broken at)
read_of end at short = Err (Short end)

-- the number at a place
unfoldable pub read_at : ℕ → ℕ → List ℕ → ℕ → NumberRead
read_at k top bs at = read_of (length bs) at (number k top (drop at bs))

-- the two widths of document 02: numbers below 2 ^ 64 in up to ten bytes, the tenth below 2, and numbers below 2 ^ 32 in up to five, the fifth below 16
abbrev pub more_of : Bool → ℕ
more_of wide = cond wide 9 4

abbrev pub top_of : Bool → ℕ
top_of wide = cond wide 2 16
