-- `positions::dealt::offset_head` meets its contract: each field is what its callee answers.
-- Assumes nothing.
use Rattle.positions.proofs.dealt.offset_head.Goals as goal

pub returns : goal.returns
returns c = cc
