-- What a function hands to its caller in another language: the number of the refusal as its result, and the values in lent places.
use Rattle.std.specs.Prelude.{ℕ, ◌≡◌, List, get_or, drop, ℤ, pos}
use Rattle.std.specs.Int.Signed.{mag}
use Rattle.structure.specs.Rows.{or_else}
use Rattle.movie.specs.Rooms.{no_room, room_after}

-- the values of an answer, or those of a refusal, in the first of the places lent. Places fewer than the values are refused 16, after the
-- question's own refusal, and nothing is written to them
pub record Hands {A : Type 0} (refusal : ℕ) (values places : List A) (r : ℕ) (after : List A) : Type 0 where
  pub result : r ≡ or_else refusal (no_room values places)
  pub placed : after ≡ room_after (no_room values places) values places

-- a question's numbers in document 01's order: the refusal, 0 for none, and then the values
abbrev pub refusal_in : List ℕ → ℕ
refusal_in numbers = get_or numbers 0 0

abbrev pub values_in : List ℕ → List ℕ
values_in numbers = drop 1 numbers

-- the promise of a function that hands over a question's numbers
abbrev pub Answers : List ℕ → List ℕ → ℕ → List ℕ → Type 0
Answers numbers places r after = Hands (refusal_in numbers) (values_in numbers) places r after

-- the same of numbers that have a sign
abbrev pub SignedAnswers : List ℤ → List ℤ → ℕ → List ℤ → Type 0
SignedAnswers numbers places r after = Hands (mag (get_or numbers 0 (pos 0))) (drop 1 numbers) places r after

-- the promise of one that also fills lent room with a list, whatever its elements are: a refusal, that of the places among them,
-- leaves the room as it is
pub record Fills {A : Type 0} (numbers places : List ℕ) (list room : List A) (r : ℕ) (after : List ℕ) (filled : List A) : Type 0 where
  pub handed : Answers numbers places r after
  pub listed : filled ≡ room_after r list room
