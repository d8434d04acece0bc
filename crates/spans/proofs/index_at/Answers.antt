-- `spans::index_at` meets its contract: a time below the total is not outside.
-- Assumes nothing.
use native.Mathlib.Omega.{arith}
use Rattle.spans.proofs.Spanning.{index_is, not_outside}
use Rattle.spans.proofs.index_at.Goals as goal

pub overflow_cast-result : goal.overflow_cast-result
overflow_cast-result c = let h = (index_is _ _ _ c.sample_at.ensures _ c.in-Some.is).0 in omega arith

pub returns-in-Some : goal.returns-in-Some
returns-in-Some c = (index_is _ _ _ c.sample_at.ensures _ c.in-Some.is).0

pub returns-in-None : goal.returns-in-None
returns-in-None c = absurd (not_outside _ _ _ c.sample_at.ensures c.requires.1 c.in-None.is)
