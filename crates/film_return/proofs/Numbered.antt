-- The numbers with which films are refused, by a test over the rows of the table; each has a place among the fourteen.
-- Assumes nothing.
use Prim.Native.Nat.{ℕ, ◌<◌}
use mathlib.Core.Path.{◌≡◌, refl, sym, ◌∙◌}
use mathlib.Core.Bool.{Bool, true, false, cond, ◌&&◌, ◌||◌}
use mathlib.Core.List.{List, [], ◌∷◌}
use lib.Dec.{ltb, eqb}
use borrow.Author.Tests.{ltb-true, ne_eqb}
use Rattle.lists.proofs.Booleans.{and_left, and_right}
use Rattle.structure.specs.declared.source.Source.{Source}
use Rattle.structure.specs.Source.{length_of}
use Rattle.structure.specs.Movie.{moov_of, tracks_of, movie_scale}
use Rattle.structure.specs.Rows.{Row, first, or_else}
use Rattle.shape.specs.Refusals.{file_rows}
use Rattle.movie.specs.Refusals.{moov_rows, moov_refusal, film_refusal}
use Rattle.movie.proofs.Numbered.{film_passes}
use Rattle.return_totals.specs.Returns.{slot_of}

abbrev has_slot : ℕ → Bool
has_slot n = eqb n 0 || ltb (slot_of n) 14

slot_passes : (s : List ℕ) (w : Source) → has_slot (film_refusal s w) ≡ true
unfolding file_rows moov_rows slot_of
slot_passes s w = film_passes has_slot refl s w refl refl

pub film_slot : (s : List ℕ) (w : Source) → (film_refusal s w ≡ 0 → ⊥) → slot_of (film_refusal s w) < 14
film_slot s w n = ltb-true _ _ (rw (ne_eqb (film_refusal s w) 0 n) at (slot_passes s w))
