-- Laws of the entries of a table, over the width: the first entry and the rest, by which a loop that takes `&t[w..]` goes.
-- Assumes nothing.
use Prim.Native.Nat.{ℕ, zero, suc, ◌-◌, ◌/◌, ◌≤◌, ◌<◌}
use mathlib.Core.Path.{◌≡◌, refl, sym, ap, ◌∙◌}
use mathlib.Core.List.{List, [], ◌∷◌}
use native.Mathlib.Nat.{div-eq-sub-div, div-eq_of_lt}
use native.Mathlib.Omega.{arith}
use lib.ListN.{length, take, drop, length-drop}
use Rattle.lists.specs.Entries.{rows, rows_of}

-- a part shorter than an entry has none
pub rows_none : (w : ℕ) (t : List ℕ) → length t < w → rows_of w t ≡ []
unfolding rows_of
rows_none w t h = rw (div-eq_of_lt h)

-- the first entry, and those of the rest
pub rows_next : (w : ℕ) (t : List ℕ) → 0 < w → w ≤ length t → rows_of w t ≡ take w t ∷ rows_of w (drop w t)
unfolding rows_of
rows_next w t p h =
    let n : length t / w ≡ suc ((length t - w) / w) = omega (arith, div-eq-sub-div p h) in
    ap (λ (k : ℕ). rows w k t) n ∙ ap (λ (k : ℕ). take w t ∷ rows w (k / w) (drop w t)) (sym (length-drop w t))

rows_length : (w n : ℕ) (t : List ℕ) → length (rows w n t) ≡ n
rows_length w zero t = refl
rows_length w (suc n) t = ap suc (rows_length w n (drop w t))

-- how many there are
pub length_rows : (w : ℕ) (t : List ℕ) → length (rows_of w t) ≡ length t / w
unfolding rows_of
length_rows w t = rows_length w (length t / w) t
