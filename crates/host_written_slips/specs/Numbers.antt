-- The numbers of a slip that is written, in document 01's order: the refusal, 0 for none, and the value, 0 with a refusal.
use Rattle.std.specs.Prelude.{ℕ, List}
use Rattle.structure.specs.declared.source.Source.{Source}
use Rattle.slip_writing.specs.Slips.{slip_answer, slip_numbers}
use Rattle.hand.specs.Times.{media}

-- "the slip's length in bytes"
abbrev pub of_slip_writing : List ℕ → Source → ℕ → ℕ → ℕ → List ℕ → List ℕ
of_slip_writing s w id a b out = slip_numbers (slip_answer s w id (media a) (media b) out)
