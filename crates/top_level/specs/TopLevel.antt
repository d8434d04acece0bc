-- The walk over a whole file: each step gets the bytes at the place that the one before told, and nothing else of the file is read.
use Rattle.std.specs.Prelude.{ℕ, zero, suc, ◌+◌, ◌/◌, ◌≤◌, ◌≡◌, List, [], ◌∷◌, true, cond, length, take, drop, ltb, eqb}
use Rattle.atoms.specs.Kinds.{file, moov}
use Rattle.atoms.specs.Atoms.{kind_of, size_in, atoms, filled, count_in, child_in}
use Rattle.top_level.specs.declared.Walk.{Walk}
use Rattle.top_level.specs.declared.Next.{Next}
use Rattle.top_level.specs.declared.Next.TheVariants.{Read, Found, Refused}
use Rattle.top_level.specs.Steps.{start, stepped}

-- what the host reads of the file s at a place: up to 16 bytes
abbrev pub header_at : List ℕ → ℕ → List ℕ
header_at s place = take 16 (drop place s)

-- an answer stays; where there is none yet the walk goes on by f
unfoldable pub on_by : (Walk → Next) → Next → Next
on_by f (Read w) = f w
on_by f (Found at size) = Found at size
on_by f (Refused r) = Refused r

-- what is said after at most n steps from w on
unfoldable pub walk : ℕ → List ℕ → Walk → Next
walk zero s w = Read w
walk (suc n) s w = on_by (walk n s) (stepped (header_at s w.place) w)

-- from the file's first byte on, with a step for each atom, which has 8 bytes at least, and one at the file's end
abbrev pub walked : List ℕ → Next
walked s = walk (length s / 8 + 1) s (start (length s))

-- where the first moov begins, of atoms that follow one another from 0
unfoldable pub moov_place : List (List ℕ) → ℕ
moov_place [] = 0
moov_place (a ∷ l) = cond (eqb (kind_of a) moov) 0 (length a + moov_place l)

-- the place and the size of the one moov of the file s; 3 where it has none or several
unfoldable pub moov_in : List ℕ → Next
moov_in s = cond (eqb (count_in file moov s) 1) (Found (moov_place (atoms file s)) (length (child_in file moov 0 s))) (Refused 3)

-- what the atoms of the file s say. 1, of document 02: "a length above 2^63-1"; 2: the top level is not filled by its atoms
unfoldable pub top_level : List ℕ → Next
top_level s = cond (ltb 9223372036854775807 (length s)) (Refused 1) (cond (filled file s) (moov_in s) (Refused 2))

-- the bytes a, lent alone, are one moov atom and nothing else
pub record OneMoov (a : List ℕ) : Type 0 where
  pub size : size_in file a ≡ length a
  pub single : atoms file a ≡ a ∷ []
  pub kind : kind_of a ≡ moov
  pub filling : filled file a ≡ true
  pub counted : count_in file moov a ≡ 1
  pub itself : child_in file moov 0 a ≡ a

-- that the walk over the file s ends, and says what its atoms say; and that what stands at the place and size that it tells is the file's moov
pub record Finds (s : List ℕ) : Type 0 where
  pub says : walked s ≡ top_level s
  pub inside : (at size : ℕ) → walked s ≡ Found at size → at + size ≤ length s
  pub moov_there : (at size : ℕ) → walked s ≡ Found at size → take size (drop at s) ≡ child_in file moov 0 s
  pub alone : (at size : ℕ) → walked s ≡ Found at size → OneMoov (take size (drop at s))
