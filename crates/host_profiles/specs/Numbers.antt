-- The numbers of a stored profile, in document 01's order: the refusal, 0 for none, and the value, 0 with a refusal.
use Rattle.std.specs.Prelude.{ℕ, List}
use Rattle.structure.specs.declared.source.Source.{Source}
use Rattle.profiles.specs.Profiles.{profile_answer, profile_answer_numbers}

-- "the count of .. records"
abbrev pub of_profile : List ℕ → Source → ℕ → List ℕ → List ℕ
of_profile s w id room = profile_answer_numbers (profile_answer s w id room)
