-- An atom and its body are no longer than the body in which they stand: a piece is cut from it, piece by piece.
-- Assumes nothing.
use Prim.Native.Nat.{ℕ, zero, suc, ◌≤◌}
use mathlib.Core.Bool.{Bool, true, false, cond}
use mathlib.Core.List.{List, [], ◌∷◌}
use native.Mathlib.Omega.{arith}
use lib.ListN.{length, get_or, take, length-drop, length-take}
use lib.Dec.{eqb}
use Rattle.atoms.specs.Pieces.{pieces_after, pieces}
use Rattle.atoms.specs.Atoms.{kind_of, header_of, body_of, size_in, of_kind, child_in, body_in}

-- no list of these is longer than n
abbrev Short : ℕ → List (List ℕ) → Type 0
Short n l = (i : ℕ) → length (get_or l i []) ≤ n

pieces_short : (size : List ℕ → ℕ) (k : ℕ) (s : List ℕ) → Short (length s) (pieces_after size k s)
unfolding pieces_after
pieces_short size k [] i = omega arith
pieces_short size (suc k) (x ∷ s) i = omega (arith, pieces_short size k s i)
pieces_short size zero (x ∷ s) i = go (size (x ∷ s)) i (λ k. pieces_short size k s)
  where
    go : (z j : ℕ) → ((k : ℕ) → Short (length s) (pieces_after size k s)) → length {A = ℕ} (get_or {A = List ℕ} (elim z [ zero ↦ [] | suc k ↦ take (suc k) (x ∷ s) ∷ pieces_after size k s ]) j []) ≤ suc (length s)
    go zero j ih = omega arith
    go (suc k) zero ih = omega (arith, length-take k s)
    go (suc k) (suc j) ih = omega (arith, ih k j)

kind_short : (k n : ℕ) (l : List (List ℕ)) → Short n l → Short n (of_kind k l)
unfolding of_kind
kind_short k n [] h i = h i
kind_short k n (a ∷ l) h i = go (eqb (kind_of a) k) i (kind_short k n l (λ j. h (suc j)))
  where
    go : (f : Bool) (j : ℕ) → Short n (of_kind k l) → length (get_or (cond f (a ∷ of_kind k l) (of_kind k l)) j []) ≤ n
    go true zero ih = h 0
    go true (suc j) ih = ih j
    go false j ih = ih j

pub child_short : (p k i : ℕ) (s : List ℕ) → length (child_in p k i s) ≤ length s
child_short p k i s = kind_short k (length s) (pieces (size_in p) s) (pieces_short (size_in p) 0 s) i

pub body_short : (p k i : ℕ) (s : List ℕ) → length (body_in p k i s) ≤ length s
unfolding body_of
body_short p k i s = omega (arith, child_short p k i s, length-drop (header_of (child_in p k i s)) (child_in p k i s))
