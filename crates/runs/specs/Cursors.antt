-- A place in a table of runs, by value: how many samples remain of a run, and where the entries not yet read begin.
use Rattle.std.specs.Prelude.{ℕ, ◌+◌, ◌-◌, ◌≡◌, cond, List, [], ◌∷◌, ◌++◌, drop, replicate, eqb}
use Rattle.lists.specs.Lists.{Run, expand}
use Rattle.runs.specs.Runs.{runs_in}
use Rattle.runs.specs.declared.cursor.RunCursor.{RunCursor}

-- what lies ahead of a cursor: one number for each sample
unfoldable pub run_ahead : List ℕ → RunCursor → List ℕ
run_ahead s c = replicate c.count c.each ++ expand (runs_in (drop c.at s))

-- a cursor that has a sample in its run, unless none lies ahead
pub record RunStands (s : List ℕ) (c : RunCursor) : Type 0 where
  pub none : c.count ≡ 0 → run_ahead s c ≡ []

-- before the first entry
abbrev pub start_run : RunCursor
start_run = record { at = 16; count = 0; each = 0 }

-- past an entry, before its samples
abbrev pub loaded_run : Run → RunCursor → RunCursor
loaded_run e c = record { at = c.at + 8; count = e.count; each = e.value }

-- entries are read until a sample remains
abbrev pub readied_run_in : List Run → RunCursor → RunCursor
readied_run_in [] c = c
readied_run_in (e ∷ es) c = cond (eqb c.count 0) (readied_run_in es (loaded_run e c)) c

unfoldable pub readied_run : List ℕ → RunCursor → RunCursor
readied_run s c = readied_run_in (runs_in (drop c.at s)) c

-- past k samples of the run
abbrev pub past_run : ℕ → RunCursor → RunCursor
past_run k c = record { at = c.at; count = c.count - k; each = c.each }
