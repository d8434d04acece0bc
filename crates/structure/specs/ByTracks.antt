-- A table of refusals, track by track. These need not be believed: they are between the crates' own functions, and `by_tracks` of
-- `proofs/Rows.antt` shows that the parts make up the table's answer.
use Rattle.std.specs.Prelude.{ℕ, List, [], ◌∷◌, cond, eqb, leb}
use Rattle.structure.specs.Rows.{Row, first, rank}

-- the number of the first row whose condition holds of one track
abbrev pub of_track : List Row → List ℕ → ℕ
of_track rs t = first (λ r. r.track t) rs

-- the one of two numbers that is judged earlier, where 0 is none
unfoldable pub earlier_of : ℕ → ℕ → ℕ
earlier_of a b = cond (eqb a 0) b (cond (eqb b 0) a (cond (leb (rank a) (rank b)) a b))

-- the earliest of the tracks' own
unfoldable pub of_tracks : List Row → List (List ℕ) → ℕ
of_tracks rs [] = 0
of_tracks rs (t ∷ ts) = earlier_of (of_track rs t) (of_tracks rs ts)
