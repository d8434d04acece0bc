-- `quay_rules::is_too_fast` meets its contract, case by case.
-- Assumes nothing.
use Rattle.quay_rules.proofs.Frames.{computed, not_computed}
use Rattle.quay_rules.proofs.is_too_fast.Goals as goal

pub returns-in-Some : goal.returns-in-Some
returns-in-Some c = computed _ _ c.in-Some.is

pub returns-in-None : goal.returns-in-None
returns-in-None c = not_computed _ c.in-None.is
