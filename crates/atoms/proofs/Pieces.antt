-- Laws of pieces for every rule of sizes: a walk either finds no piece, or the first one and then those of the rest.
-- Assumes nothing.
use Prim.Native.Nat.{ℕ, zero, suc, ◌+◌, ◌-◌, ◌≤◌, ◌<◌}
use mathlib.Core.Path.{◌≡◌, refl, sym, ap, ◌∙◌}
use mathlib.Core.List.{List, [], ◌∷◌}
use mathlib.Core.Bool.{Bool, true, false}
use lib.ListN.{length, take, drop, length-drop}
use lib.Seq.{drop-nil, length-take-le}
use lib.Dec.{eqb}
use borrow.Author.Tests.{eqb-true, eqb-false, eq-eqb, ne_eqb}
use native.Mathlib.Omega.{arith}
use Rattle.atoms.specs.Pieces.{pieces_after, pieces, total, filled_by}

after_drop : (size : List ℕ → ℕ) (k : ℕ) (s : List ℕ) → pieces_after size k s ≡ pieces_after size 0 (drop k s)
unfolding pieces_after
after_drop size k [] = rw (drop-nil k)
after_drop size zero (x ∷ s) = refl
after_drop size (suc k) (x ∷ s) = after_drop size k s

pub pieces_none : (size : List ℕ → ℕ) (s : List ℕ) → size s ≡ 0 → pieces size s ≡ []
unfolding pieces_after
pieces_none size [] e = refl
pieces_none size (x ∷ s) e = rw (e, pieces_after)

pub pieces_next : (size : List ℕ → ℕ) (s : List ℕ) (z : ℕ) → z ≡ size s → 0 < z → z ≤ length s
    → pieces size s ≡ take z s ∷ pieces size (drop z s)
unfolding pieces_after
pieces_next size s zero e h g = absurd (omega arith)
pieces_next size [] (suc k) e h g = absurd (omega arith)
pieces_next size (x ∷ s) (suc k) e h g = rw (sym e, pieces_after) (ap (λ l. take (suc k) (x ∷ s) ∷ l) (after_drop size k s))

eqb_shift : (z x y : ℕ) → eqb (z + x) (z + y) ≡ eqb x y
eqb_shift z x y = go (eqb x y) refl
  where
    go : (b : Bool) → eqb x y ≡ b → eqb (z + x) (z + y) ≡ b
    go true e = let h = eqb-true x y e in eq-eqb (z + x) (z + y) (omega arith)
    go false e = ne_eqb (z + x) (z + y) (λ q. eqb-false x y e (omega arith))

pub filled_none : (size : List ℕ → ℕ) (s : List ℕ) → size s ≡ 0 → 0 < length s → filled_by size s ≡ false
unfolding filled_by total
filled_none size s e h = rw (pieces_none size s e) (ne_eqb 0 (length s) (λ q. omega arith))

pub filled_next : (size : List ℕ → ℕ) (s : List ℕ) (z : ℕ) → z ≡ size s → 0 < z → z ≤ length s
    → filled_by size s ≡ filled_by size (drop z s)
unfolding filled_by total
filled_next size s z e h g =
    let m : length s ≡ z + (length s - z) = omega arith in
    rw (pieces_next size s z e h g, length-take-le z s g, length-drop z s)
    (ap (eqb (z + total (pieces size (drop z s)))) m ∙ eqb_shift z _ _)

pub filled_end : (size : List ℕ → ℕ) (s : List ℕ) → length s ≤ 0 → filled_by size s ≡ true
unfolding filled_by total pieces_after
filled_end size [] h = refl
filled_end size (x ∷ s) h = absurd (omega arith)
