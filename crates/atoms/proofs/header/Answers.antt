-- `atoms::header` meets its contract: the test that led to a return says which case holds.
-- Assumes nothing.
use borrow.Author.Tests.{eq-eqb, ne_eqb}
use Rattle.atoms.specs.Atoms.{header_of}
use Rattle.atoms.proofs.header.Goals as goal

pub u32_at-requires : goal.u32_at-requires
u32_at-requires c = tt

pub returns-then-u32_at-eq1 : goal.returns-then-u32_at-eq1
unfolding header_of
returns-then-u32_at-eq1 c = simp (← c.u32_at.ensures, eq-eqb _ _ c.if-u32_at-eq1.true)

pub returns-else-u32_at-eq1 : goal.returns-else-u32_at-eq1
unfolding header_of
returns-else-u32_at-eq1 c = simp (← c.u32_at.ensures, ne_eqb _ _ c.if-u32_at-eq1.false)
