-- `runs::cursor::run_start` meets its contract: its fields are those of the start.
-- Assumes nothing.
use mathlib.Core.Path.{refl}
use Rattle.runs.proofs.cursor.run_start.Goals as goal

pub returns : goal.returns
returns c = refl
