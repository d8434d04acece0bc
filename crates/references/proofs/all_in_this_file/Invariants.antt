-- `references::all_in_this_file` meets its contract; the loop's invariant: the descriptions of the rest decide for all of them.
-- Assumes nothing.
use mathlib.Core.Path.{◌≡◌}
use mathlib.Core.List.{List}
use mathlib.Core.Bool.{Bool}
use Prim.Native.Nat.{ℕ}
use lib.ListN.{length}
use Rattle.atoms.specs.Pieces.{pieces}
use Rattle.atoms.specs.Tree.{all}
use Rattle.leaves.specs.Leaves.{size_entry}
use Rattle.descriptions.specs.Descriptions.{descriptions}
use Rattle.references.specs.References.{references, index_of, names_this_file, all_in_this_file}
use Rattle.references.proofs.all_in_this_file.Given as goal

-- what is asked of a description
abbrev pub Names : List ℕ → List ℕ → Bool
Names dref d = names_this_file (references dref) (index_of d)

abbrev pub invariant-loop-t : goal.invariant-loop-t
invariant-loop-t l = all (Names l.dref) (pieces (size_entry l.least) l.t) ≡ all_in_this_file (references l.dref) (descriptions l.least l.stsd)

abbrev pub decreases-loop-t : goal.decreases-loop-t
decreases-loop-t l = length l.t
