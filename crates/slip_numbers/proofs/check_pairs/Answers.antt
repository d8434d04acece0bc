-- `slip_numbers::check_pairs` meets its contract, by what the function that answers promises.
-- Assumes nothing.
use mathlib.Core.Path.{sym}
use Rattle.slip_numbers.proofs.check_pairs.Goals as goal

pub returns-then-are_numbers : goal.returns-then-are_numbers
returns-then-are_numbers c = rw c.if-not-wide.true (sym (c.are_numbers.ensures c.if-are_numbers.true))
