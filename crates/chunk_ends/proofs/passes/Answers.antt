-- `chunk_ends::passes` meets its contract: past the offset, the bytes are held to what is left of the limit.
-- Assumes nothing.
use Prim.Native.Nat.{◌+◌}
use mathlib.Core.Path.{sym}
use native.Mathlib.Omega.{arith}
use borrow.Author.Tests.{lt-ltb}
use Rattle.chunk_ends.proofs.RunEnds.{left_over}
use Rattle.chunk_ends.proofs.passes.Goals as goal

pub returns-then-limit-base : goal.returns-then-limit-base
returns-then-limit-base c = let a = c.args in sym (lt-ltb a.limit (a.base + a.bytes) (omega (arith, c.if-limit-base.true)))

pub returns : goal.returns
returns c = let a = c.args in left_over a.limit a.base a.bytes (omega (arith, c.if-limit-base.false))
