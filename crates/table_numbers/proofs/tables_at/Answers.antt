-- `table_numbers::tables_at` meets its contract: each field is what its callee answers.
-- Assumes nothing.
use Rattle.table_numbers.proofs.tables_at.Goals as goal

pub returns : goal.returns
returns c = cc
