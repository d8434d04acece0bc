-- `references::is_this_file` meets its contract, by what the call ensures.
-- Assumes nothing.
use Prim.Native.Nat.{◌%◌}
use mathlib.Core.Path.{ap}
use lib.Dec.{eqb}
use Rattle.references.specs.References.{is_this_file}
use Rattle.references.proofs.is_this_file.Goals as goal

pub byte_at-requires : goal.byte_at-requires
byte_at-requires c = tt

pub returns : goal.returns
unfolding is_this_file
returns c = ap (λ b. eqb (b % 2) 1) c.byte_at.ensures
