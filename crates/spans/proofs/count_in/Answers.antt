-- `spans::count_in` meets its contract.
-- Assumes nothing.
use mathlib.Core.Path.{◌∙◌}
use Rattle.spans.proofs.Spanning.{table_fits, count_is}
use Rattle.spans.proofs.count_in.Goals as goal

pub part_of-stsc-requires : goal.part_of-stsc-requires
part_of-stsc-requires c = tt

pub part_of-requires : goal.part_of-requires
part_of-requires c = tt

pub u32_at-chunks-requires : goal.u32_at-chunks-requires
u32_at-chunks-requires c = tt

pub count_pairs-requires : goal.count_pairs-requires
count_pairs-requires c = table_fits _ _ _ (c.part_of-stsc.ensures ∙ c.requires.0.stsc) c.requires.1

pub returns : goal.returns
returns c = count_is _ _ _ _ _ _ (c.part_of-stsc.ensures ∙ c.requires.0.stsc) (c.part_of.ensures ∙ c.requires.0.offsets) c.u32_at-chunks.ensures c.count_pairs.ensures
