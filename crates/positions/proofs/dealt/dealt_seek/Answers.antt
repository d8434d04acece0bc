-- `positions::dealt::dealt_seek` meets its contract: each field is what its callee answers.
-- Assumes nothing.
use Rattle.positions.proofs.Dealing.{seek_made}
use Rattle.positions.proofs.dealt.dealt_seek.Goals as goal

pub returns : goal.returns
returns c = seek_made _ _ _ _ _ _ _ _ _ _ c.seek-found.ensures c.pass-cursor.ensures c.begun_with.ensures c.span.ensures c.located_offset.ensures
