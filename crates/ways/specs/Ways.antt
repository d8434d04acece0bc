-- The two ways in, compared. Document 02: "A second way in takes the moov atom alone in lent bytes .. with the file's length as a number".
use Rattle.std.specs.Prelude.{ℕ, ◌≤◌, ◌≡◌, List, Bool, true, cond, length, eqb}
use Rattle.atoms.specs.Kinds.{file, moov, stbl, co64}
use Rattle.atoms.specs.Atoms.{child_in, count_in, filled}
use Rattle.atoms.specs.Tree.{everywhere}
use Rattle.structure.specs.Movie.{moov_of}

-- the moov atom of a file, its header included: what the second way takes
abbrev pub moov_atom : List ℕ → List ℕ
moov_atom s = child_in file moov 0 s

-- whether the body b of the parent p has no co64 that the second way would read
unfoldable pub no_long_offsets : ℕ → List ℕ → Bool
no_long_offsets p b = cond (eqb p stbl) (eqb (count_in stbl co64 b) 0) true

-- a file of which both ways say the same: it is within document 01's limit, its atoms fill it and exactly one of them is a moov, in which no stbl
-- has a co64. With stco and co64 in one stbl a whole file is not refused for it, and its moov alone is refused 3
pub record BothWays (s : List ℕ) : Type 0 where
  pub short : length s ≤ 2147483647
  pub top : filled file s ≡ true
  pub one : count_in file moov s ≡ 1
  pub narrow : everywhere no_long_offsets 5 moov (moov_of s) ≡ true
