-- `host_opened::handle_in` meets its contract: each field is what its callee answers.
-- Assumes nothing.
use Rattle.host_opened.specs.Handle.{opened_in}
use Rattle.host_opened.proofs.handle_in.Goals as goal

pub tables_at-requires : goal.tables_at-requires
tables_at-requires c = tt

pub low_at-requires : goal.low_at-requires
low_at-requires c = tt

pub low_at-requires-2 : goal.low_at-requires-2
low_at-requires-2 c = tt

pub low_at-requires-3 : goal.low_at-requires-3
low_at-requires-3 c = tt

pub low_at-requires-4 : goal.low_at-requires-4
low_at-requires-4 c = tt

pub low_at-requires-5 : goal.low_at-requires-5
low_at-requires-5 c = tt

pub returns : goal.returns
unfolding opened_in
returns c = cc
