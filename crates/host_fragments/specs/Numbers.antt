-- The numbers of the question: the refusal, 0 for none, and whether there is an mvex and a moof, zeros with a refusal.
use Rattle.std.specs.Prelude.{ℕ, List}
use Rattle.structure.specs.declared.source.Source.{Source}
use Rattle.fragments.specs.Fragments.{fragments_answer, fragments_numbers}

abbrev pub of_fragments : List ℕ → Source → List ℕ
of_fragments s w = fragments_numbers (fragments_answer s w)
