-- `pairs::bytes_before` meets its contract: up to an index that is not further on there is nothing to add.
-- Assumes nothing.
use mathlib.Core.Path.{sym}
use native.Mathlib.Omega.{arith}
use Rattle.pairs.proofs.Touched.{none_between}
use Rattle.pairs.proofs.bytes_before.Goals as goal

pub returns-then-first-begin : goal.returns-then-first-begin
returns-then-first-begin c = (sym (none_between _ _ _ c.if-first-begin.true), omega arith)

pub returns : goal.returns
returns c = c.bytes_between.ensures
