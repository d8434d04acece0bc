-- The fifth rule as the code goes through stss. This need not be believed: it is between the crate's own functions, and
-- `proofs/Groups.antt` shows that the numbers of stss say what the samples' flags say.
use Rattle.std.specs.Prelude.{ℕ, ◌-◌, Bool, ◌||◌, List, [], ◌∷◌, ltb, leb}

-- a group has more than m of the n samples, where `last` is a sync sample, and the list has the numbers of the sync samples after it,
-- and may have `last` itself first
abbrev pub long_group : ℕ → ℕ → ℕ → List ℕ → Bool
long_group m n last [] = leb m (n - last)
long_group m n last (x ∷ xs) = ltb m (x - last) || long_group m n x xs
