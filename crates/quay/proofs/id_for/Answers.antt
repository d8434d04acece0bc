-- `quay::id_for` meets its contract.
-- Assumes nothing.
use mathlib.Core.Path.{sym}
use borrow.Author.Tests.{eq-eqb, ne_eqb}
use Rattle.quay.proofs.id_for.Goals as goal

pub returns-then-lower-rule : goal.returns-then-lower-rule
returns-then-lower-rule c = let a = c.args in sym (rw (eq-eqb a.lower a.rule c.if-lower-rule.true))

pub returns-else-lower-rule : goal.returns-else-lower-rule
returns-else-lower-rule c = let a = c.args in sym (rw (ne_eqb a.lower a.rule c.if-lower-rule.false))
