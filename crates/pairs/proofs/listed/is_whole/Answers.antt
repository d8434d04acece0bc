-- `pairs::listed::is_whole` meets its contract: the tests are those of the definition.
-- Assumes nothing.
use mathlib.Core.Path.{sym}
use borrow.Author.Tests.{eq-eqb, ne_eqb}
use Rattle.pairs.proofs.listed.is_whole.Goals as goal

pub returns-then-c-eq0 : goal.returns-then-c-eq0
returns-then-c-eq0 c = sym (rw (eq-eqb _ 0 c.if-c-eq0.true))

pub returns-then-len-eq0 : goal.returns-then-len-eq0
returns-then-len-eq0 c = sym (rw (ne_eqb _ 0 c.if-c-eq0.false, eq-eqb _ 0 c.if-len-eq0.true))

pub returns : goal.returns
returns c = sym (rw (ne_eqb _ 0 c.if-c-eq0.false, ne_eqb _ 0 c.if-len-eq0.false))
