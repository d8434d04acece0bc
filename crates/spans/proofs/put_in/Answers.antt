-- `spans::put_in` meets its contract: an accepted track's pairs fit.
-- Assumes nothing.
use mathlib.Core.Path.{ap, ◌∙◌}
use mathlib.Core.List.{map}
use native.Mathlib.Omega.{arith}
use lib.ListN.{length}
use lib.Seq.{sets}
use Rattle.lists.specs.Lists.{sum}
use Rattle.pairs.specs.Pairs.{flat}
use Rattle.pairs.specs.Walks.{lengths_of}
use Rattle.spans.proofs.Spanning.{between_is, may_put}
use Rattle.spans.proofs.put_in.Goals as goal

pub part_of-stsc-requires : goal.part_of-stsc-requires
part_of-stsc-requires g c = tt

pub part_of-stsz-requires : goal.part_of-stsz-requires
part_of-stsz-requires g c = tt

pub part_of-offsets-requires : goal.part_of-offsets-requires
part_of-offsets-requires g c = tt

pub u32_at-requires : goal.u32_at-requires
u32_at-requires g c = tt

pub put_pairs-requires : goal.put_pairs-requires
put_pairs-requires g c = may_put _ _ _ _ _ _ (c.part_of-stsc.ensures ∙ c.requires.0.stsc) (c.part_of-stsz.ensures ∙ c.requires.0.stsz) (c.part_of-offsets.ensures ∙ c.requires.0.offsets) c.u32_at.ensures c.requires.1 g.met.N.RoomNumber.fits (λ x. (c.type_inv.stsz x).fits) (omega arith) c.requires.2 _ c.requires.3

pub returns : goal.returns
returns g c =
    let e = between_is _ _ _ _ c.args.s _ (c.part_of-stsc.ensures ∙ c.requires.0.stsc) (c.part_of-stsz.ensures ∙ c.requires.0.stsz) (c.part_of-offsets.ensures ∙ c.requires.0.offsets) c.u32_at.ensures in
    (c.put_pairs.ensures.0 ∙ ap length e, c.put_pairs.ensures.1 ∙ ap (λ l. sum (lengths_of l)) e, c.put_pairs.ensures.2 ∙ ap (λ l. sets (map g.N.RoomNumber.value c.args.room.now) 0 (flat l)) e)
