-- `pair_checks::start_fits` meets its contract: compared without a sum.
-- Assumes nothing.
use native.Mathlib.Omega.{arith}
use Rattle.pair_checks.proofs.Fits.{compared}
use Rattle.pair_checks.proofs.start_fits.Goals as goal

pub returns : goal.returns
returns c = compared _ _ _ _ _ _ (omega arith) c.bytes_between-before.ensures.0 c.chunk_offset.ensures
