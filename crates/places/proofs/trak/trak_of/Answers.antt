-- `places::trak::trak_of` meets its contract, by what the calls ensure.
-- Assumes nothing.
use mathlib.Core.Path.{refl}
use Rattle.places.proofs.trak.trak_of.Goals as goal

pub part_of-requires : goal.part_of-requires
part_of-requires c = tt

pub parts_of-parts-requires : goal.parts_of-parts-requires
parts_of-parts-requires c = tt

pub returns : goal.returns
returns c = record { body = refl; parts = rw c.part_of.ensures at c.parts_of-parts.ensures }
