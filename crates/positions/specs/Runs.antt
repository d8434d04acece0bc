-- A place in a table of runs before a sample. These need not be believed: callers go by what lies ahead (`run_sought` of `proofs/Runs.antt`).
use Rattle.std.specs.Prelude.{ℕ, ◌-◌, cond, List, [], ◌∷◌, ltb, eqb, ℤ, pos}
use Rattle.bigendian.specs.BigEndian.{signed32}
use Rattle.lists.specs.Lists.{Run}
use Rattle.runs.specs.Runs.{runs_of}
use Rattle.runs.specs.Cursors.{start_run, loaded_run, past_run}
use Rattle.runs.specs.declared.cursor.RunCursor.{RunCursor}

-- before the sample that is k further on than c, es being the entries not yet read: they are read up to the one that has it, or all
abbrev pub sought_run_in : List Run → RunCursor → ℕ → RunCursor
sought_run_in [] c k = past_run k c
sought_run_in (e ∷ es) c k = cond (ltb k c.count) (past_run k c) (sought_run_in es (loaded_run e c) (k - c.count))

-- before the sample with index k
unfoldable pub sought_run : List ℕ → ℕ → RunCursor
sought_run s k = sought_run_in (runs_of s) start_run k

-- the signed number of the sample at which a cursor stands; 0 where none lies ahead
unfoldable pub shift_of : RunCursor → ℤ
shift_of c = cond (eqb c.count 0) (pos 0) (signed32 c.each)
