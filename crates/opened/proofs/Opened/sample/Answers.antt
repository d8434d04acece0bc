-- `opened::Opened::sample` meets its contract: what the tables at the handle's parts say.
-- Assumes nothing.
use Rattle.opened.proofs.Answers.{by_sample}
use Rattle.opened.proofs.Opened.sample.Goals as goal

pub part_of-requires : goal.part_of-requires
part_of-requires c = tt

pub part_of-requires-2 : goal.part_of-requires-2
part_of-requires-2 c = tt

pub part_of-requires-3 : goal.part_of-requires-3
part_of-requires-3 c = tt

pub part_of-requires-4 : goal.part_of-requires-4
part_of-requires-4 c = tt

pub part_of-requires-5 : goal.part_of-requires-5
part_of-requires-5 c = tt

pub part_of-requires-6 : goal.part_of-requires-6
part_of-requires-6 c = tt

pub sample_of-requires : goal.sample_of-requires
sample_of-requires c = tt

pub returns : goal.returns
returns c = by_sample _ c.args.self _ _ _ _ _ _ _ _ c.part_of.ensures c.part_of-2.ensures c.part_of-3.ensures c.part_of-4.ensures c.part_of-5.ensures c.part_of-6.ensures c.sample_of.ensures
