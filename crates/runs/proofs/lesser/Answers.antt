-- `runs::lesser` meets its contract, by which of the two numbers is 0.
-- Assumes nothing.
use native.Mathlib.Omega.{arith}
use mathlib.Core.Path.{sym}
use Rattle.runs.proofs.Leasts.{lesser_none, lesser_other, lesser_both}
use Rattle.runs.proofs.lesser.Goals as goal

pub returns-then-a-eq0 : goal.returns-then-a-eq0
returns-then-a-eq0 c = sym (lesser_none _ _ c.if-a-eq0.true)

pub returns-then-b-eq0 : goal.returns-then-b-eq0
returns-then-b-eq0 c = sym (lesser_other _ _ c.if-a-eq0.false c.if-b-eq0.true)

pub returns-then-a-b : goal.returns-then-a-b
returns-then-a-b c = let a = c.args in omega (arith, lesser_both a.a a.b c.if-a-eq0.false c.if-b-eq0.false)

pub returns-else-a-b : goal.returns-else-a-b
returns-else-a-b c = let a = c.args in omega (arith, lesser_both a.a a.b c.if-a-eq0.false c.if-b-eq0.false)
