-- `spans::has_room` meets its contract: an accepted track has no more pairs than chunks.
-- Assumes nothing.
use Prim.Native.Nat.{ℕ, ◌/◌}
use mathlib.Core.Path.{sym, ap, ◌∙◌}
use lib.Dec.{leb}
use Rattle.spans.proofs.Spanning.{room_there}
use Rattle.spans.proofs.has_room.Goals as goal

pub part_of-requires : goal.part_of-requires
part_of-requires c = tt

pub u32_at-chunks-requires : goal.u32_at-chunks-requires
u32_at-chunks-requires c = tt

pub returns-then-chunks-most : goal.returns-then-chunks-most
returns-then-chunks-most c = sym (room_there _ c.args.s c.requires.1 _ _ (c.args.places / 2) (c.part_of.ensures ∙ c.requires.0.offsets) c.u32_at-chunks.ensures c.if-chunks-most.true)

pub returns : goal.returns
returns c = ap (λ (k : ℕ). leb k (c.args.places / 2)) c.count_in.ensures
