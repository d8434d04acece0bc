-- `opened_stretches::refusal_by` meets its contract: what the tables at the handle's places say.
-- Assumes nothing.
use Rattle.refusals.proofs.Numbers.{passed}
use Rattle.opened_stretches.proofs.Answers.{by-refusal}
use Rattle.stretch.proofs.Saying.{none_said, refusal_said}
use Rattle.opened_stretches.proofs.refusal_by.Goals as goal

pub returns-in_err-asked_of : goal.returns-in_err-asked_of
returns-in_err-asked_of c =
    by-refusal _ c.args.h _ _ _ _ _ _ c.part_of.ensures c.part_of-2.ensures c.part_of-3.ensures c.part_of-4.ensures _
    (rw (passed c.from_residual.result _ c.from_residual.ensures.1) (refusal_said _ _ _ _ _ _ _ _ _ c.asked_of.ensures _ c.in_err-asked_of.was))

pub returns : goal.returns
returns c = by-refusal _ c.args.h _ _ _ _ _ _ c.part_of.ensures c.part_of-2.ensures c.part_of-3.ensures c.part_of-4.ensures _ (none_said _ _ _ _ _ _ _ _ _ c.asked_of.ensures _ c.in_ok-asked_of.was)
