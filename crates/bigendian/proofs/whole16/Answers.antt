-- `bigendian::whole16` meets its contract: the number of two bytes, written out.
-- Assumes nothing.
use native.Mathlib.Nat.{add-zero}
use native.Mathlib.Omega.{arith}
use Rattle.bigendian.specs.BigEndian.{be_at}
use Rattle.bigendian.proofs.whole16.Goals as goal

pub returns : goal.returns
unfolding be_at
returns c = rw add-zero (omega arith)
