-- A film where a sample is passed over, its media scale being finer than the movie's: scale 2 in a movie of scale 1, three samples of one unit, and the entry
-- (2, 0). Its two movie times show media times 0 and 2, so that samples 1 and 3 are met, and sample 2 is not.
-- Assumes nothing.
use Prim.Native.Nat.{ℕ}
use mathlib.Core.Path.{◌≡◌, refl}
use mathlib.Core.Bool.{true}
use mathlib.Core.List.{List, [], ◌∷◌, map}
use lib.IntN.{pos}
use Rattle.lists.specs.Lists.{holder}
use Rattle.edits.specs.Edits.{edit_ok, list_ok, map_in}
use Rattle.edits.specs.declared.Edit.{Edit}
use Rattle.edits.specs.declared.Mapped.TheVariants.{Media, Outside}

abbrev list : List Edit
list = record { duration = 2; media = pos 0; rate = 65536 } ∷ []

shown : map (map_in 2 1 3 list) (0 ∷ 1 ∷ 2 ∷ []) ≡ Media (record { 0 = 0 }) ∷ Media (record { 0 = 2 }) ∷ Outside ∷ []
shown = refl

-- the list is right, so the film is not refused for it
right : list_ok 2 1 3 list ≡ true
unfolding edit_ok
right = refl

-- the indices, from 0, of the samples at these media times: 1, that of sample 2, is not among them
met : map (holder (1 ∷ 1 ∷ 1 ∷ [])) (0 ∷ 2 ∷ []) ≡ 0 ∷ 2 ∷ []
met = refl
