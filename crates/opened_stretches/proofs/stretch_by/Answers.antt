-- `opened_stretches::stretch_by` meets its contract: what the tables at the handle's places say.
-- Assumes nothing.
use Rattle.opened_stretches.proofs.Answers.{by_stretch}
use Rattle.opened_stretches.proofs.stretch_by.Goals as goal

pub returns : goal.returns
returns c = by_stretch _ c.args.h _ _ _ _ _ _ c.part_of.ensures c.part_of-2.ensures c.part_of-3.ensures c.part_of-4.ensures _ _ _ c.stretch_in.ensures
