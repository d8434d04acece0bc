-- The values of numbers that stand one after the other, as the code reads them. Nobody has to believe these definitions: they are between the
-- crates' own functions, and `slip/proofs/Found.antt` shows that they come to what `slip/specs/Slip.antt` says.
use Rattle.std.specs.Prelude.{List, [], ◌∷◌, ℕ, zero, suc, Ok, Err}
use Rattle.leb128.specs.Reading.{NumberRead, read_at}

-- the values of c numbers from a place, 0 for one that is not there
abbrev pub value_of : NumberRead → ℕ
value_of (Ok n) = n.value
value_of (Err fault) = 0

abbrev pub next_of : ℕ → NumberRead → ℕ
next_of at (Ok n) = n.next
next_of at (Err fault) = at

unfoldable pub values_from : ℕ → ℕ → List ℕ → ℕ → ℕ → List ℕ
values_from k top bs zero at = []
values_from k top bs (suc c) at = value_of (read_at k top bs at) ∷ values_from k top bs c (next_of at (read_at k top bs at))
