-- `windows::rated` meets its contract: 8 may stand with either factor, and a rate that is computed is that of the bytes and the span.
-- Assumes nothing.
use Rattle.windows.proofs.Rating.{rated_some, rated_none}
use Rattle.windows.proofs.rated.Goals as goal

pub returns-in_err-rate : goal.returns-in_err-rate
returns-in_err-rate c = rw c.from_residual.ensures (rated_none _ _ _ _ _ _ c.rate.ensures c.in_err-rate.was)

pub returns : goal.returns
returns c = rated_some _ _ _ _ _ _ c.rate.ensures _ c.requires.2 c.in_ok-rate.was
