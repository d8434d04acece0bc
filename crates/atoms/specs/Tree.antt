-- The tree of atoms: a condition that is asked of every body.
use Rattle.std.specs.Prelude.{ℕ, zero, suc, List, [], ◌∷◌, Bool, true, false, cond, ◌&&◌}
use Rattle.atoms.specs.Kinds.{container}
use Rattle.atoms.specs.Atoms.{atoms, kind_of, body_of}

-- whether f holds of each of them
unfoldable pub all : (List ℕ → Bool) → List (List ℕ) → Bool
all f [] = true
all f (a ∷ l) = f a && all f l

-- whether `check` holds of the body s of the parent p and of the body of every container below it. "A tree is six levels deep
-- at most, and the walk descends one level at a time": n is the number of levels that remain. With none the answer is no,
-- which from the file with six, or from a moov's body with five, cannot come about (proofs/Levels)
unfoldable pub everywhere : (ℕ → List ℕ → Bool) → ℕ → ℕ → List ℕ → Bool
everywhere check zero p s = false
everywhere check (suc n) p s =
    check p s && all (λ a. cond (container p (kind_of a)) (everywhere check n (kind_of a) (body_of a)) true) (atoms p s)
