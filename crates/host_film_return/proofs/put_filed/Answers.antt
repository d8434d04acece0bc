-- `host_film_return::put_filed` meets its contract.
-- Assumes nothing.
use Rattle.host_film_return.proofs.Filed.{refused_left, accepted_put}
use Rattle.host_film_return.proofs.put_filed.Goals as goal

pub returns-then-refusal-ne0 : goal.returns-then-refusal-ne0
returns-then-refusal-ne0 c = refused_left _ _ c.if-refusal-ne0.true

pub returns : goal.returns
returns c = accepted_put _ _ _ c.if-refusal-ne0.false c.put_return.ensures
