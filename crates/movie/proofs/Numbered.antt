-- The numbers with which films are refused, by a test over the rows of the table; and that a question's refusals are numbers of refusals.
-- Assumes nothing.
use Prim.Native.Nat.{ℕ, ◌≤◌}
use mathlib.Core.Path.{◌≡◌, refl}
use mathlib.Core.Bool.{Bool, true, false, cond, ◌&&◌}
use mathlib.Core.List.{List, [], ◌∷◌}
use native.Mathlib.Omega.{arith}
use lib.Dec.{ltb, leb, eqb}
use lib.ListN.{length}
use borrow.Author.Tests.{leb-true}
use Rattle.lists.proofs.Booleans.{and_left, and_right}
use Rattle.structure.specs.declared.source.Source.{Source}
use Rattle.structure.specs.Source.{length_of}
use Rattle.structure.specs.Movie.{moov_of, movie_scale}
use Rattle.structure.specs.Rows.{Row, first, or_else}
use Rattle.shape.specs.Refusals.{file_rows}
use Rattle.movie.specs.Refusals.{moov_rows, moov_refusal, film_refusal}
use Rattle.movie.specs.Rooms.{no_room}

-- each row's number passes a test
abbrev pub passes : (ℕ → Bool) → List Row → Bool
passes p [] = true
passes p (r ∷ rs) = p r.number && passes p rs

module _ (p : ℕ → Bool) (z : p 0 ≡ true) where
  first_passes : (f : Row → Bool) (rs : List Row) → passes p rs ≡ true → p (first f rs) ≡ true
  unfolding first
  first_passes f [] e = z
  first_passes f (r ∷ rs) e = go (f r) (first_passes f rs (and_right (p r.number) _ e))
    where
      go : (b : Bool) → p (first f rs) ≡ true → p (cond b r.number (first f rs)) ≡ true
      go true h = and_left (p r.number) (passes p rs) e
      go false h = h

  pub else_passes : (a b : ℕ) → p a ≡ true → p b ≡ true → p (or_else a b) ≡ true
  unfolding or_else
  else_passes a b q r = go (eqb a 0)
    where
      go : (c : Bool) → p (cond c b a) ≡ true
      go true = r
      go false = q

  -- so does the refusal of a film
  pub film_passes : (s : List ℕ) (w : Source) → passes p (file_rows w) ≡ true → passes p (moov_rows w (movie_scale (moov_of s)) (length_of w s)) ≡ true → p (film_refusal s w) ≡ true
  unfolding film_refusal moov_refusal
  film_passes s w a b = else_passes _ _ (first_passes _ (file_rows w) a) (first_passes _ (moov_rows w (movie_scale (moov_of s)) (length_of w s)) b)

abbrev is_low : ℕ → Bool
is_low n = leb n 21

film_is_low : (s : List ℕ) (w : Source) → is_low (film_refusal s w) ≡ true
unfolding file_rows moov_rows
film_is_low s w = film_passes is_low refl s w refl refl

pub film_low : (s : List ℕ) (w : Source) → film_refusal s w ≤ 21
film_low s w = leb-true _ _ (film_is_low s w)

pub else_low : (a b : ℕ) → a ≤ 21 → b ≤ 21 → or_else a b ≤ 21
unfolding or_else
else_low a b p q = go (eqb a 0)
  where
    go : (c : Bool) → cond c b a ≤ 21
    go true = q
    go false = p

pub room_low : {A : Type 0} (answer room : List A) → no_room answer room ≤ 21
unfolding no_room
room_low answer room = go (ltb (length room) (length answer))
  where
    go : (b : Bool) → cond b 16 0 ≤ 21
    go true = omega arith
    go false = omega arith
