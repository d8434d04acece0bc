-- `windows::are_single` meets its contract: it compares both counts with 1.
-- Assumes nothing.
use borrow.Author.Tests.{eq-eqb, ne_eqb}
use Rattle.windows.specs.Windows.{are_single}
use Rattle.windows.proofs.are_single.Goals as goal

pub returns-then-whole32-ne1 : goal.returns-then-whole32-ne1
unfolding are_single
returns-then-whole32-ne1 c = rw (← c.whole32.ensures, ne_eqb _ 1 c.if-whole32-ne1.true)

pub returns : goal.returns
unfolding are_single
returns c = rw (← c.whole32.ensures, eq-eqb _ 1 c.if-whole32-ne1.false, ← c.whole32-2.ensures)
