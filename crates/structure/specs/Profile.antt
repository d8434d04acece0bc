-- The profile of a movie or of a track.
use Rattle.std.specs.Prelude.{ℕ, List, [], ◌∷◌, cond, get_or, eqb}
use Rattle.atoms.specs.Kinds.{prfl}
use Rattle.atoms.specs.Atoms.{kind_of, atoms}

-- "the first 'prfl' child before its mvhd (tkhd); any other is skipped": the first prfl before the first atom of kind k; empty
-- where there is none
unfoldable pub first_before : ℕ → List (List ℕ) → List ℕ
first_before k [] = []
first_before k (a ∷ l) = cond (eqb (kind_of a) k) ([]) (cond (eqb (kind_of a) prfl) a (first_before k l))

-- "Version not 0: there is none." An empty body has no version byte, so it stays
unfoldable pub of_version0 : List ℕ → List ℕ
of_version0 a = cond (eqb (get_or a 8 0) 0) a ([])

-- the profile in the body s of the parent p, whose mvhd or tkhd is of kind k; empty where there is none
unfoldable pub profile_in : ℕ → ℕ → List ℕ → List ℕ
profile_in p k s = of_version0 (first_before k (atoms p s))
