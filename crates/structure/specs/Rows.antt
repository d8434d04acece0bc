-- A table of refusals: rows in the order in which they are judged, each with its number, its condition on the whole and its
-- condition on a track. The whole is a file or the body of a moov, and a track the body of a trak, as lists of bytes.
use Rattle.std.specs.Prelude.{ℕ, ◌+◌, List, [], ◌∷◌, Bool, true, false, cond, ◌||◌, ◌&&◌, eqb, ltb}

pub record Row : Type 0 where
  pub number : ℕ
  pub whole : List ℕ → Bool
  pub track : List ℕ → Bool

abbrev pub row : ℕ → (List ℕ → Bool) → (List ℕ → Bool) → Row
row n f g = record { number = n; whole = f; track = g }

-- a condition that is only the whole's, or only a track's
abbrev pub never : List ℕ → Bool
never s = false

-- whether f holds of one of them
unfoldable pub some : (List ℕ → Bool) → List (List ℕ) → Bool
some f [] = false
some f (t ∷ ts) = f t || some f ts

-- the number of the first row of which f holds; 0 where there is none
unfoldable pub first : (Row → Bool) → List Row → ℕ
first f [] = 0
first f (r ∷ rs) = cond (f r) r.number (first f rs)

-- "The answer is the lowest number that applies; each condition is judged on files that pass all lower ones"; document 02: "19, ..
-- judged after 11 and before 12". So the answer is the first in the order judged: the number of the first row whose condition holds
-- of the whole or of one of its tracks
abbrev pub first_judged : List Row → List ℕ → List (List ℕ) → ℕ
first_judged rs m ts = first (λ r. r.whole m || some r.track ts) rs

-- the number of the first row whose condition holds of the whole itself
abbrev pub of_whole : List Row → List ℕ → ℕ
of_whole rs m = first (λ r. r.whole m) rs

-- a number, or where there is none the one that is judged after it
unfoldable pub or_else : ℕ → ℕ → ℕ
or_else a b = cond (eqb a 0) b a

-- the place of a number in the order of judging: 19 "after 11 and before 12", the others as they rise, twice as far apart
unfoldable pub rank : ℕ → ℕ
rank n = cond (eqb n 19) 23 (n + n)

-- whether the rows stand in the order of judging, from past the place n
unfoldable pub ranks_rise : ℕ → List Row → Bool
ranks_rise n [] = true
ranks_rise n (r ∷ rs) = ltb n (rank r.number) && ranks_rise (rank r.number) rs
