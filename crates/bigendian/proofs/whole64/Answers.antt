-- `bigendian::whole64` meets its contract, by the law that joins two numbers.
-- Assumes nothing.
use native.Mathlib.Omega.{arith}
use Rattle.bigendian.proofs.Laws.{be_at_join}
use Rattle.bigendian.proofs.whole64.Goals as goal

pub returns : goal.returns
returns c = let a = c.args in omega (arith, be_at_join 4 4 a.s.now a.at)
