-- `feature_checks::bound_of` meets its contract, case by case.
-- Assumes nothing.
use Rattle.feature_checks.specs.Bounds.{bound_of}
use borrow.Author.Rules.{rules}
use Rattle.feature_checks.proofs.bound_of.Goals as goal

pub returns-in-Some : goal.returns-in-Some
unfolding bound_of
returns-in-Some c = search rules

pub returns-in-None : goal.returns-in-None
unfolding bound_of
returns-in-None c = search rules
