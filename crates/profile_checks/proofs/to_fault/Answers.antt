-- `profile_checks::to_fault` meets its contract: the test is the one of the definition.
-- Assumes nothing.
use borrow.Author.Tests.{ne_eqb}
use Rattle.profile_checks.specs.Checks.{to_fault}
use Rattle.profile_checks.proofs.to_fault.Goals as goal

pub returns-then-place-eq0 : goal.returns-then-place-eq0
unfolding to_fault
returns-then-place-eq0 c = rw c.if-place-eq0.true

pub returns : goal.returns
unfolding to_fault
returns c = rw (ne_eqb _ _ c.if-place-eq0.false)
