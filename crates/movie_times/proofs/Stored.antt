-- The entries of an edit list, entry after entry, stored from a place of the room on.
-- Assumes nothing.
use Prim.Native.Nat.{ℕ, suc, ◌+◌, ◌*◌, ◌/◌, ◌≤◌}
use mathlib.Core.Path.{◌≡◌, refl, ap, ◌∙◌}
use mathlib.Core.List.{List, [], ◌∷◌, ◌++◌}
use native.Mathlib.Omega.{arith}
use native.Mathlib.Nat.{zero-add}
use lib.ListN.{length, drop, length-map}
use lib.Seq.{sets, sets-eq, length-sets}
use lib.IntN.{ℤ}
use Rattle.lists.specs.Entries.{rows_of}
use Rattle.lists.proofs.Rows.{length_rows}
use Rattle.edits.specs.declared.Edit.{Edit}
use Rattle.edits.specs.Edits.{edit_of, edits_in}
use Rattle.edits.proofs.Turns.{edits_next}
use Rattle.movie_times.specs.Entries.{edit_numbers}

-- three numbers for each entry
pub numbers_length : (es : List Edit) → length (edit_numbers es) ≡ 3 * length es
numbers_length [] = refl
numbers_length (e ∷ es) = omega (arith, numbers_length es)

-- how many entries a part has
pub edits-count : (t : List ℕ) → length (edits_in t) ≡ length t / 12
unfolding edits_in
edits-count t = length-map (rows_of 12 t) edit_of ∙ length_rows 12 t

-- a turn of the walk that puts them, at a place t that has an entry
module _ (t : List ℕ) (h : 12 ≤ length t) where
  next : edits_in t ≡ edit_of t ∷ edits_in (drop 12 t)
  next = edits_next t h refl

  pub room_here : (at k : ℕ) → at + 3 * length (edits_in t) ≤ k → (at + 3 ≤ k) × (at + 3 + 3 * length (edits_in (drop 12 t)) ≤ k)
  room_here at k g = let z : at + 3 * suc (length (edits_in (drop 12 t))) ≤ k = rw next at g in (omega arith, omega arith)

  pub turn : (room new goal : List ℤ) (at : ℕ) → new ≡ sets room at (edit_numbers (edit_of t ∷ [])) → sets room at (edit_numbers (edits_in t)) ≡ goal
      → (length new ≡ length room) × (sets new (at + 3) (edit_numbers (edits_in (drop 12 t))) ≡ goal)
  turn room new goal at d g =
      let z : sets room at (edit_numbers (edit_of t ∷ edits_in (drop 12 t))) ≡ goal = rw next at g in
      let e : at + 3 ≡ suc (suc (suc at)) = omega arith in
      (ap length d ∙ length-sets room at (edit_numbers (edit_of t ∷ [])), rw (d, e) z)

-- all of them, in room for them all
pub all_edits : (es : List Edit) (room : List ℤ) → 3 * length es ≤ length room → sets room 0 (edit_numbers es) ≡ edit_numbers es ++ drop (length (edit_numbers es)) room
all_edits es room h = rw (zero-add) at (sets-eq (edit_numbers es) room 0 (omega (arith, numbers_length es)))
