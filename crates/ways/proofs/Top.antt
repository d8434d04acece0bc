-- The one moov of a file by itself is one atom.
-- Assumes nothing.
use Prim.Native.Nat.{ℕ}
use mathlib.Core.Path.{◌≡◌}
use mathlib.Core.List.{List, [], ◌∷◌}
use mathlib.Core.Bool.{true}
use lib.ListN.{length}
use native.Mathlib.Omega.{arith}
use Rattle.atoms.specs.Kinds.{file, moov}
use Rattle.atoms.specs.Atoms.{kind_of, size_in, atoms, of_kind, child_in, count_in, filled}
use Rattle.top_level.specs.TopLevel.{OneMoov}
use Rattle.top_level.proofs.Places.{moov_alone}

module _ (s : List ℕ) (one : count_in file moov s ≡ 1) where
  alone : OneMoov (child_in file moov 0 s)
  alone = moov_alone s (omega arith)

  pub moov_kinds : of_kind moov (atoms file (child_in file moov 0 s)) ≡ child_in file moov 0 s ∷ []
  unfolding of_kind
  moov_kinds = rw (alone.single, alone.kind)

  pub moov_filled : filled file (child_in file moov 0 s) ≡ true
  moov_filled = alone.filling

  pub moov_size : size_in file (child_in file moov 0 s) ≡ length (child_in file moov 0 s)
  moov_size = alone.size

  pub moov_kind : kind_of (child_in file moov 0 s) ≡ moov
  moov_kind = alone.kind
