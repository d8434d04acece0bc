-- The numbers of a profile's check: the refusal, 0 for none, and the place of the first record at fault, 0 for yes and with a refusal.
-- Document 01: "Numbers returned with a refusal are all 0". 16 where no place is lent is this repository's convention for places (crate hand).
use Rattle.std.specs.Prelude.{ℕ, List}
use Rattle.structure.specs.declared.source.Source.{Source}
use Rattle.profile_checks.specs.Checks.{check_answer, check_numbers}

abbrev pub of_profile_check : List ℕ → Source → ℕ → List ℕ
of_profile_check s w id = check_numbers (check_answer s w id)
