-- The numbers of a feature and of its peak: the refusal, 0 for none, and the values, zeros with a refusal.
use Rattle.std.specs.Prelude.{ℕ, List}
use Rattle.structure.specs.declared.source.Source.{Source}
use Rattle.feature_questions.specs.Feature.{feature_answer, feature_numbers, peak_answer, peak_numbers}

-- the feature's value
abbrev pub of_feature : List ℕ → Source → ℕ → ℕ → List ℕ
of_feature s w id code = feature_numbers (feature_answer s w id code)

-- the number of the first sample of the peak's run, and how many samples it has
abbrev pub of_peak : List ℕ → Source → ℕ → ℕ → List ℕ
of_peak s w id code = peak_numbers (peak_answer s w id code)
