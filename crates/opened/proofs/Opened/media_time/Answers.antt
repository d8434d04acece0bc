-- `opened::Opened::media_time` meets its contract: what the edit list at the handle's part says.
-- Assumes nothing.
use Rattle.opened.proofs.Answers.{by_time}
use Rattle.opened.proofs.Opened.media_time.Goals as goal

pub part_of-requires : goal.part_of-requires
part_of-requires c = tt

pub media_time_in-requires : goal.media_time_in-requires
media_time_in-requires c = tt

pub returns : goal.returns
returns c = by_time _ c.args.self _ _ _ c.part_of.ensures c.media_time_in.ensures
