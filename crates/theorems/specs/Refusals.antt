-- The order of the refusals of a film as a claim: "The answer is the lowest number that applies", and of 19 "judged after 11 and before
-- 12"; so it is the first in the order judged. Each condition is defined of every film, so that it need not be "judged on files that
-- pass all lower ones" to have a meaning.
use Rattle.std.specs.Prelude.{ℕ, ◌≤◌, ◌<◌, ◌≡◌, ◌⊎◌, Bool, true, false, ◌||◌, List, [], ◌∷◌, ◌++◌, map}
use Rattle.structure.specs.declared.source.Source.{Source}
use Rattle.structure.specs.Source.{strictly, length_of}
use Rattle.structure.specs.Rows.{Row, some, rank, ranks_rise}
use Rattle.structure.specs.Movie.{moov_of, movie_scale, tracks_of}
use Rattle.shape.specs.Refusals.{file_rows}
use Rattle.movie.specs.Refusals.{moov_rows, film_refusal}

-- one of some rows has the number n, and its condition holds
abbrev pub OneHolds : (Row → Bool) → List Row → ℕ → Type 0
OneHolds f [] n = ⊥
OneHolds f (r ∷ rs) n = ((f r ≡ true) × (r.number ≡ n)) ⊎ OneHolds f rs n

-- the rows that are judged on the movie of the film s
abbrev pub rows_of_movie : List ℕ → Source → List Row
rows_of_movie s w = moov_rows w (movie_scale (moov_of s)) (length_of w s)

-- the number n applies to the film s: by a row that is judged on the bytes lent, or by one that is judged on its movie or one of its tracks
abbrev pub Applies : List ℕ → Source → ℕ → Type 0
Applies s w n =
    OneHolds (λ r. r.whole s) (file_rows w) n
    ⊎ OneHolds (λ r. r.whole (moov_of s) || some r.track (tracks_of (moov_of s))) (rows_of_movie s w) n

pub record FirstApplies (s : List ℕ) (w : Source) : Type 0 where
  -- the rows are those of these numbers, and stand in the order of judging
  pub numbers : map (λ r. r.number) (file_rows w ++ rows_of_movie s w)
      ≡ 1 ∷ 2 ∷ 3 ∷ 4 ∷ 5 ∷ 6 ∷ 7 ∷ 8 ∷ 9 ∷ 10 ∷ 11 ∷ 19 ∷ 12 ∷ 13 ∷ []
  pub order : ranks_rise 0 (file_rows w ++ rows_of_movie s w) ≡ true
  -- a number that is given applies
  pub applies : (film_refusal s w ≡ 0 → ⊥) → Applies s w (film_refusal s w)
  -- where one applies a number is given, and none that applies is judged earlier
  pub earliest : (n : ℕ) → Applies s w n → (0 < film_refusal s w) × (rank (film_refusal s w) ≤ rank n)

-- "11 only where strict reading is asked for, in its old place"
pub record StrictReading (s : List ℕ) (w : Source) : Type 0 where
  -- it is not given otherwise
  pub only : w.strict ≡ false → film_refusal s w ≡ 11 → ⊥
  -- where strict reading gives another number, or none, the default gives the same
  pub others : (k : ℕ) → (k ≡ 11 → ⊥) → film_refusal s (strictly w) ≡ k → film_refusal s w ≡ k
  -- what is judged before it is given by both
  pub before : (k : ℕ) → 0 < k → k < 11 → film_refusal s w ≡ k → film_refusal s (strictly w) ≡ k
  -- where it is given, the default gives none, or what is judged after it
  pub after : w.strict ≡ false → film_refusal s (strictly w) ≡ 11 → (film_refusal s w ≡ 0) ⊎ (11 < film_refusal s w)
