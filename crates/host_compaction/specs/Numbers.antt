-- The numbers of compaction in document 01's order: the refusal, 0 for none, and the value, 0 with a refusal.
use Rattle.std.specs.Prelude.{ℕ, List}
use Rattle.structure.specs.declared.source.Source.{Source}
use Rattle.compaction.specs.Compaction.{compact_answer, compact_numbers}

-- the length of the moov atom: "its own length, which is returned"
abbrev pub of_compaction : List ℕ → Source → List ℕ → List ℕ
of_compaction s w room = compact_numbers (compact_answer s w room)
