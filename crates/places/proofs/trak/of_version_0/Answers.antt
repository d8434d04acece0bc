-- `places::trak::of_version_0` meets its contract: the test is the one of the definition.
-- Assumes nothing.
use borrow.Author.Tests.{eq-eqb, ne_eqb}
use Rattle.structure.specs.Profile.{of_version0}
use Rattle.places.specs.Places.{part_in}
use Rattle.places.proofs.trak.of_version_0.Goals as goal

pub part_of-requires : goal.part_of-requires
part_of-requires c = tt

pub byte_at-requires : goal.byte_at-requires
byte_at-requires c = tt

pub returns-then-byte_at-eq0 : goal.returns-then-byte_at-eq0
unfolding of_version0
returns-then-byte_at-eq0 c = rw (← c.part_of.ensures, ← c.byte_at.ensures, eq-eqb _ _ c.if-byte_at-eq0.true)

pub returns : goal.returns
unfolding of_version0 part_in
returns c = rw (← c.part_of.ensures, ← c.byte_at.ensures, ne_eqb _ _ c.if-byte_at-eq0.false)
