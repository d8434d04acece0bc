-- `stretch::tables::stretch_in` meets its contract: what the tables say, put.
-- Assumes nothing.
use Rattle.refusals.proofs.Numbers.{passed}
use Rattle.stretch.proofs.Saying.{said_refused, said_fits, said_put}
use Rattle.stretch.proofs.tables.stretch_in.Goals as goal

pub put_span-requires : goal.put_span-requires
put_span-requires c = said_fits _ _ _ _ _ _ _ _ _ c.asked_of.ensures c.args.room.now _ c.in_ok-span.was

pub returns-in_err-span : goal.returns-in_err-span
returns-in_err-span c = rw (passed c.from_residual.result _ c.from_residual.ensures.1) (said_refused _ _ _ _ _ _ _ _ _ c.asked_of.ensures _ _ c.in_err-span.was)

pub returns : goal.returns
returns c = said_put _ _ _ _ _ _ _ _ _ c.asked_of.ensures _ _ c.in_ok-span.was _ _ c.put_span.ensures
