-- `slip_head::put_head` meets its contract: the numbers so far are put one after the other.
-- Assumes nothing.
use Rattle.std.specs.Prelude.{take}
use Rattle.leb128.proofs.Puts.{Put}
use Rattle.slip_head.proofs.put_head.Given as goal

abbrev pub invariant-loop-n : goal.invariant-loop-n
invariant-loop-n l = Put l.fn.out (take l.n-index l.n-items) l.at l.out
