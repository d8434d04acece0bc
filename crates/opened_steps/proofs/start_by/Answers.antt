-- `opened_steps::start_by` meets its contract: what the tables at the handle's places say.
-- Assumes nothing.
use Rattle.opened_steps.proofs.Answers.{by_start}
use Rattle.opened_steps.proofs.start_by.Goals as goal

pub returns : goal.returns
returns c = by_start _ c.args.h _ _ c.start_in.ensures
