-- What is asked of the offsets of a run of chunks. This need not be believed: it is between the crate's own functions.
use Rattle.std.specs.Prelude.{ℕ, Bool, true, false, cond, List, [], ◌∷◌, ltb}

-- none of some numbers is above m
abbrev pub none_above : ℕ → List ℕ → Bool
none_above m [] = true
none_above m (x ∷ xs) = cond (ltb m x) false (none_above m xs)
