-- `atoms::size_inside` meets its contract: the test that led to a return says which case holds.
-- Assumes nothing.
use borrow.Author.Tests.{lt-ltb, le-ltb}
use Rattle.atoms.specs.Atoms.{size_inside}
use Rattle.atoms.proofs.size_inside.Goals as goal

pub returns-then-s-lt8 : goal.returns-then-s-lt8
unfolding size_inside
returns-then-s-lt8 c = simp (lt-ltb _ _ c.if-s-lt8.true)

pub u32_at-requires : goal.u32_at-requires
u32_at-requires c = tt

pub fit-requires : goal.fit-requires
fit-requires c = tt

pub returns : goal.returns
unfolding size_inside
returns c = simp (le-ltb _ _ c.if-s-lt8.false, ← c.u32_at.ensures) c.fit.ensures
