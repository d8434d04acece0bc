-- `host_top_level::walk_in` meets its contract: each field is what its callee answers.
-- Assumes nothing.
use Rattle.host_top_level.specs.Numbers.{walk_in}
use Rattle.host_top_level.proofs.walk_in.Goals as goal

pub returns : goal.returns
unfolding walk_in
returns c = cc
