-- `compact_entries::same_deal` meets its contract: two numbers compared.
-- Assumes nothing.
use borrow.Author.Tests.{eq-eqb, ne_eqb}
use Rattle.compact_entries.specs.Entries.{same_deal}
use Rattle.compact_entries.proofs.same_deal.Goals as goal

pub returns-then-u32_at : goal.returns-then-u32_at
unfolding same_deal
returns-then-u32_at c = rw (← c.u32_at.ensures, ← c.u32_at-2.ensures, ne_eqb _ _ c.if-u32_at.true)

pub returns : goal.returns
unfolding same_deal
returns c = rw (← c.u32_at.ensures, ← c.u32_at-2.ensures, eq-eqb _ _ c.if-u32_at.false, ← c.u32_at-3.ensures, ← c.u32_at-4.ensures)
