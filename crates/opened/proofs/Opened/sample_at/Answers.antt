-- `opened::Opened::sample_at` meets its contract: what stts at the handle's part says.
-- Assumes nothing.
use Rattle.opened.proofs.Answers.{by_number}
use Rattle.opened.proofs.Opened.sample_at.Goals as goal

pub part_of-requires : goal.part_of-requires
part_of-requires c = tt

pub sample_number_in-requires : goal.sample_number_in-requires
sample_number_in-requires c = tt

pub returns : goal.returns
returns c = by_number _ c.args.self _ _ _ c.part_of.ensures c.sample_number_in.ensures
