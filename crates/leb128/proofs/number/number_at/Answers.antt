-- `leb128::number::number_at` meets its contract: 9 and 2 make the limit 2 ^ 64, 4 and 16 the limit 2 ^ 32.
-- Assumes nothing.
use native.Mathlib.Omega.{arith}
use Rattle.leb128.proofs.Groups.{limit32, limit64}
use Rattle.leb128.proofs.number.number_at.Goals as goal

pub number_in-requires : goal.number_in-requires
number_in-requires c = omega (arith, limit64)

pub returns-then-wide : goal.returns-then-wide
returns-then-wide c = rw c.if-wide.true c.number_in.ensures

pub number_in-requires-2 : goal.number_in-requires-2
number_in-requires-2 c = omega (arith, limit32)

pub returns : goal.returns
returns c = rw c.if-wide.false c.number_in-2.ensures
