-- Lent room before and after an answer, whatever its elements: "Lists go to lent 32-bit numbers", and by document 02 "pairs are 64-bit there".
use Rattle.std.specs.Prelude.{ℕ, List, ◌∷◌, ◌++◌, cond, length, drop, replicate, eqb, ltb}

-- 16: "the lent room is shorter than the answer"
unfoldable pub no_room : {A : Type 0} → List A → List A → ℕ
no_room answer room = cond (ltb (length room) (length answer)) 16 0

-- "An accepted answer fills the first places and leaves the rest"
unfoldable pub filled_room : {A : Type 0} → List A → List A → List A
filled_room answer room = answer ++ drop (length answer) room

-- the room after an answer that is refused with that number, 0 for none: with a refusal "lent buffers keep their contents"
unfoldable pub room_after : {A : Type 0} → ℕ → List A → List A → List A
room_after refusal answer room = cond (eqb refusal 0) (filled_room answer room) room

-- "Numbers returned with a refusal are all 0": its own, and so many zeros
abbrev pub refused_with : ℕ → ℕ → List ℕ
refused_with zeros refusal = refusal ∷ replicate zeros 0
