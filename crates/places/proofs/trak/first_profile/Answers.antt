-- `places::trak::first_profile` meets its contract: the test is the one of the definition.
-- Assumes nothing.
use borrow.Author.Tests.{eq-eqb, ne_eqb}
use Rattle.places.proofs.trak.first_profile.Goals as goal

pub returns-then-tkhd-ne0 : goal.returns-then-tkhd-ne0
returns-then-tkhd-ne0 c = simp (ne_eqb _ _ c.if-tkhd-ne0.true)

pub first_part-requires : goal.first_part-requires
first_part-requires c = tt

pub returns : goal.returns
returns c = simp (eq-eqb _ _ c.if-tkhd-ne0.false) c.first_part.ensures
