-- `track::subtype_in` meets its contract, by what the calls ensure.
-- Assumes nothing.
use Prim.Native.Nat.{ℕ}
use mathlib.Core.Path.{ap, ◌∙◌}
use mathlib.Core.List.{List}
use Rattle.bigendian.specs.BigEndian.{u32_at}
use Rattle.structure.specs.Track.{subtype_of}
use Rattle.track.proofs.subtype_in.Goals as goal

pub part_of-requires : goal.part_of-requires
part_of-requires c = tt

pub u32_at-requires : goal.u32_at-requires
u32_at-requires c = tt

pub returns : goal.returns
unfolding subtype_of
returns c = c.u32_at.ensures ∙ ap (λ (l : List ℕ). u32_at l 16) (c.part_of.ensures ∙ c.requires.hdlr)
