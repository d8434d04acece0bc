-- `words::size_head` meets its contract: each field is what its callee answers.
-- Assumes nothing.
use Rattle.words.proofs.size_head.Goals as goal

pub returns : goal.returns
returns c = cc
