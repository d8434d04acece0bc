-- A body written atom by atom.
-- Assumes nothing.
use Prim.Native.Nat.{ℕ, zero, suc, ◌+◌, ◌-◌, ◌<◌, ◌≤◌}
use mathlib.Core.Path.{◌≡◌, refl, ap}
use mathlib.Core.List.{List, [], ◌∷◌, ◌++◌, map}
use mathlib.Core.Bool.{Bool, true, false, cond}
use native.Mathlib.Omega.{arith}
use lib.ListN.{length, take, drop, length-drop}
use lib.Dec.{eqb}
use borrow.Author.Tests.{eq-eqb}
use Rattle.atoms.specs.Kinds.{container, stbl}
use Rattle.atoms.specs.Atoms.{kind_of, header_of, body_of, size_in, atoms}
use Rattle.atoms.proofs.Laws.{atoms_none, atoms_next}
use Rattle.byte_writing.specs.Bytes.{joined}
use Rattle.compact_tables.specs.Tables.{compact_tables}
use Rattle.compact_tree.specs.Tree.{compact_body}

-- an atom in the parent p, with n levels below it
abbrev pub compact_atom : ℕ → ℕ → List ℕ → List ℕ
compact_atom n p a = cond (container p (kind_of a)) (take (header_of a) a ++ compact_body n (kind_of a) (body_of a)) a

-- what is still to be written, where t is the rest of a body
unfoldable pub rest_of : ℕ → ℕ → List ℕ → List ℕ
rest_of n p t = joined (map (compact_atom n p) (atoms p t))

pub body_zero : (n p : ℕ) (s : List ℕ) → n ≡ 0 → compact_body n p s ≡ s
unfolding compact_body
body_zero zero p s h = refl
body_zero (suc n) p s h = absurd (omega arith)

pub body_open : (n p : ℕ) (s : List ℕ) → 0 < n → eqb p stbl ≡ false → compact_body n p s ≡ rest_of (n - 1) p s
unfolding compact_body rest_of
body_open zero p s h e = absurd (omega arith)
body_open (suc n) p s h e = let q : suc n - 1 ≡ n = omega arith in rw (e, q)

module _ (n p : ℕ) (t : List ℕ) (z : ℕ) (e : z ≡ size_in p t) where
  pub rest_none : z < 8 → rest_of n p t ≡ []
  unfolding rest_of joined
  rest_none h = rw (atoms_none p t z e h)

  pub rest_next : 8 ≤ z → rest_of n p t ≡ compact_atom n p (take z t) ++ rest_of n p (drop z t)
  unfolding rest_of joined
  rest_next h = rw (atoms_next p t z e h)

-- ---- an atom, by what a walk has learnt of it

module _ (n p k : ℕ) (a : List ℕ) (q : Bool) (e : k ≡ kind_of a) (f : q ≡ container p k) where
  pub atom_container : q ≡ true → (h b : List ℕ) → h ≡ take (header_of a) a → b ≡ body_of a → compact_atom n p a ≡ h ++ compact_body n k b
  atom_container g h b i j = rw (← e, ← f, g, ← i, ← j)

  pub atom_leaf : q ≡ false → compact_atom n p a ≡ a
  atom_leaf g = rw (← e, ← f, g)

pub body_tables : (n p : ℕ) (s : List ℕ) → 0 < n → p ≡ stbl → compact_body n p s ≡ compact_tables s
unfolding compact_body
body_tables zero p s h e = absurd (omega arith)
body_tables (suc n) p s h e = rw (eq-eqb p stbl e)

pub body_shorter : (a : List ℕ) → length (body_of a) ≤ length a
unfolding body_of
body_shorter a = omega (arith, length-drop (header_of a) a)

-- what stands before the rest
pub before_rest : (h : ℕ) (a : List ℕ) → take (length a - length (drop h a)) a ≡ take h a
before_rest zero a = let q : length a - length a ≡ 0 = omega arith in rw q
before_rest (suc h) [] = refl
before_rest (suc h) (x ∷ a) =
    let q : suc (length a) - length (drop h a) ≡ suc (length a - length (drop h a)) = omega (arith, length-drop h a) in
    rw q (ap (λ l. x ∷ l) (before_rest h a))
