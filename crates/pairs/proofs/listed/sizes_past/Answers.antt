-- `pairs::listed::sizes_past` meets its contract: what follows the bytes of the chunk's sizes.
-- Assumes nothing.
use Prim.Native.Nat.{◌*◌}
use Rattle.bigendian.proofs.Parts.{rest as part-rest}
use Rattle.pairs.proofs.listed.sizes_past.Goals as goal

pub returns : goal.returns
returns c = let a = c.args in part-rest (a.c.per * 4) a.sizes.now
