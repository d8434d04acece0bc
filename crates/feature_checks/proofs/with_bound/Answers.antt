-- `feature_checks::with_bound` meets its contract: the bound is there, or it is computed.
-- Assumes nothing.
use Rattle.feature_checks.proofs.Judging.{bound_is, bound_set}
use Rattle.feature_checks.proofs.with_bound.Goals as goal

pub returns-then-of-i-ne0 : goal.returns-then-of-i-ne0
returns-then-of-i-ne0 c = let p = c.requires in record { bounds = p.i_value.2; here = p.i_value.2.known _ p.i_value.1 c.if-of-i-ne0.true }

pub returns : goal.returns
returns c =
    let p = c.requires in
    bound_set _ _ _ _ _ p.i_value.1 p.i_value.2 (bound_is _ _ _ _ _ _ p.i_value.0 p.i_value.1 c.feature_of.ensures c.bound_of.ensures.0)
