-- The tree below a file's one moov: a condition everywhere is that on the file itself and that below the moov; conditions that agree where another
-- holds agree everywhere.
-- Assumes nothing.
use Prim.Native.Nat.{ℕ}
use mathlib.Core.Path.{◌≡◌, refl, ap}
use mathlib.Core.List.{List, [], ◌∷◌}
use mathlib.Core.Bool.{Bool, true, false, cond, ◌&&◌}
use lib.ListN.{length, get_or}
use lib.Dec.{eqb}
use borrow.Author.Tests.{eqb-true}
use native.Mathlib.Omega.{arith}
use Rattle.atoms.specs.Kinds.{file, moov, trak, edts, mdia, minf, stbl, dinf, container}
use Rattle.atoms.specs.Atoms.{kind_of, body_of, atoms, of_kind, count_in}
use Rattle.atoms.specs.Tree.{all, everywhere}
use Rattle.structure.specs.Movie.{moov_of}

-- ---- below the one moov

same : (b : Bool) → cond b false false ≡ false
same true = refl
same false = refl

with_true : (b : Bool) → (b && true) ≡ b
with_true true = refl
with_true false = refl

-- in the file only moov is a container
pub only_moov : (k : ℕ) → container file k ≡ eqb k moov
unfolding container
only_moov k = rw (same (eqb k dinf), same (eqb k stbl), same (eqb k minf), same (eqb k mdia), same (eqb k edts), same (eqb k trak)) (go (eqb k moov))
  where
    go : (b : Bool) → cond b true false ≡ b
    go true = refl
    go false = refl

module _ (check : ℕ → List ℕ → Bool) where
  abbrev asked : List ℕ → Bool
  asked a = cond (container file (kind_of a)) (check (kind_of a) (body_of a)) true

  asked_here : (a : List ℕ) → eqb (kind_of a) moov ≡ true → asked a ≡ check moov (body_of a)
  asked_here a e = rw (only_moov (kind_of a), e, eqb-true (kind_of a) moov e)

  asked_leaf : (a : List ℕ) → eqb (kind_of a) moov ≡ false → asked a ≡ true
  asked_leaf a e = rw (only_moov (kind_of a), e)

  asked_none : (l : List (List ℕ)) → length (of_kind moov l) ≡ 0 → all asked l ≡ true
  unfolding all of_kind
  asked_none [] h = refl
  asked_none (a ∷ l) h = go (eqb (kind_of a) moov) refl (asked_none l) h
    where
      go : (b : Bool) → eqb (kind_of a) moov ≡ b → (length (of_kind moov l) ≡ 0 → all asked l ≡ true) → length (cond b (a ∷ of_kind moov l) (of_kind moov l)) ≡ 0 → (asked a && all asked l) ≡ true
      go true q ih k = absurd (omega arith)
      go false q ih k = rw (asked_leaf a q) (ih k)

  asked_one : (l : List (List ℕ)) → length (of_kind moov l) ≡ 1 → all asked l ≡ check moov (body_of (get_or (of_kind moov l) 0 []))
  unfolding all of_kind
  asked_one [] h = absurd (omega arith)
  asked_one (a ∷ l) h = go (eqb (kind_of a) moov) refl (asked_one l) h
    where
      go : (b : Bool) → eqb (kind_of a) moov ≡ b → (length (of_kind moov l) ≡ 1 → all asked l ≡ check moov (body_of (get_or (of_kind moov l) 0 [])))
          → length (cond b (a ∷ of_kind moov l) (of_kind moov l)) ≡ 1
          → (asked a && all asked l) ≡ check moov (body_of (get_or (cond b (a ∷ of_kind moov l) (of_kind moov l)) 0 []))
      go true q ih k = rw (asked_here a q, asked_none l (omega arith)) (with_true (check moov (body_of a)))
      go false q ih k = rw (asked_leaf a q) (ih k)

pub from_file : (check : ℕ → List ℕ → Bool) (s : List ℕ) → count_in file moov s ≡ 1 → everywhere check 6 file s ≡ (check file s && everywhere check 5 moov (moov_of s))
unfolding everywhere moov_of
from_file check s e = ap (λ b. check file s && b) (asked_one (everywhere check 5) (atoms file s) e)
