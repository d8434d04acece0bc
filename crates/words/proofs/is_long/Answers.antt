-- `words::is_long` meets its contract: the type stands at 4.
-- Assumes nothing.
use mathlib.Core.Path.{ap}
use lib.Dec.{eqb}
use Rattle.atoms.specs.Kinds.{co64}
use Rattle.words.proofs.is_long.Goals as goal

pub returns : goal.returns
returns c = ap (λ k. eqb k co64) c.u32_at.ensures
