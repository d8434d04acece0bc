-- `runs::cursor::run_pass` meets its contract: what remains is the difference.
-- Assumes nothing.
use Rattle.runs.proofs.cursor.run_pass.Goals as goal

pub returns : goal.returns
returns c = let a = c.args.c in λ i. record { at = a.at; count = c.saturating_sub.ensures i; each = a.each }
