-- The numbers of a step of the walk: the refusal, 0 for none, and six values, zeros with a refusal.
use Rattle.std.specs.Prelude.{ℕ, List, [], ◌∷◌, get_or}
use Rattle.movie.specs.Rooms.{refused_with}
use Rattle.top_level.specs.declared.Walk.{Walk}
use Rattle.top_level.specs.declared.Next.{Next}
use Rattle.top_level.specs.declared.Next.TheVariants.{Read, Found, Refused}
use Rattle.top_level.specs.Steps.{stepped}

-- the walk whose state is in the first five places; a place that is not lent counts as 0
unfoldable pub walk_in : List ℕ → Walk
walk_in places =
    record { length = get_or places 0 0; place = get_or places 1 0; moovs = get_or places 2 0; at = get_or places 3 0; size = get_or places 4 0 }

-- the state of a walk that goes on, and 0; where the moov is found, 0 for the length and for where to read next, one moov, its place, its size,
-- and 1
unfoldable pub next_numbers : Next → List ℕ
next_numbers (Read w) = 0 ∷ w.length ∷ w.place ∷ w.moovs ∷ w.at ∷ w.size ∷ 0 ∷ []
next_numbers (Found at size) = 0 ∷ 0 ∷ 0 ∷ 1 ∷ at ∷ size ∷ 1 ∷ []
next_numbers (Refused r) = refused_with 6 r

-- of the step with the bytes h from the state in the places
abbrev pub of_step : List ℕ → List ℕ → List ℕ
of_step h places = next_numbers (stepped h (walk_in places))
