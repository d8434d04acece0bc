-- The chunks as the code goes through them. These need not be believed: they are between the crate's own functions.
use Rattle.std.specs.Prelude.{ℕ, Bool, cond, List, ◌∷◌}
use Rattle.chunk_order.specs.Order.{Extent, in_order}

abbrev pub extent : ℕ → ℕ → Extent
extent offset bytes = record { offset = offset; bytes = bytes }

-- chunks that are in order after one before them, unless they are the first
abbrev pub ordered_after : Bool → ℕ → ℕ → List Extent → Bool
ordered_after first offset bytes es = cond first (in_order es) (in_order (extent offset bytes ∷ es))
