-- The numbers of a stretch, in document 01's order: the refusal, 0 for none, and the values, zeros with a refusal.
use Rattle.std.specs.Prelude.{ℕ, List}
use Rattle.structure.specs.declared.source.Source.{Source}
use Rattle.stretch.specs.Stretches.{stretch_answer, stretch_numbers}
use Rattle.hand.specs.Times.{media}

-- "the number of pairs and the total of bytes"
abbrev pub of_stretch : List ℕ → Source → ℕ → ℕ → ℕ → List ℕ → List ℕ
of_stretch s w id a b room = stretch_numbers (stretch_answer s w id (media a) (media b) room)
