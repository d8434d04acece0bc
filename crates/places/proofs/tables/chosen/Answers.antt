-- `places::tables::chosen` meets its contract: the test says whether stco is there.
-- Assumes nothing.
use borrow.Author.Tests.{eq-eqb, ne_eqb}
use Rattle.places.proofs.tables.chosen.Goals as goal

pub part_of-requires : goal.part_of-requires
part_of-requires c = tt

pub returns-then-part_of-eq0 : goal.returns-then-part_of-eq0
returns-then-part_of-eq0 c = rw (← c.part_of.ensures, eq-eqb _ _ c.if-part_of-eq0.true)

pub returns : goal.returns
returns c = rw (← c.part_of.ensures, ne_eqb _ _ c.if-part_of-eq0.false)
