-- The numbers of the question: the refusal, 0 for none, and the rule and the track's ID, zeros with a refusal and for a yes.
use Rattle.std.specs.Prelude.{ℕ, List}
use Rattle.structure.specs.declared.source.Source.{Source}
use Rattle.quay.specs.Quay.{quay_answer, quay_numbers}

abbrev pub of_quay : List ℕ → Source → List ℕ
of_quay s w = quay_numbers (quay_answer s w)
