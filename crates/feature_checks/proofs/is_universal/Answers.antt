-- `feature_checks::is_universal` meets its contract, by what the call ensures.
-- Assumes nothing.
use Rattle.feature_checks.specs.Records.{is_universal}
use Rattle.feature_checks.proofs.is_universal.Goals as goal

pub returns : goal.returns
unfolding is_universal
returns c = rw c.u32_at.ensures
