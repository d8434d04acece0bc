-- `slip_scan::find_wide` meets its contract: a case for each answer of the rest with numbers below 2 ^ 32.
-- Assumes nothing.
use mathlib.Core.Path.{sym, ◌∙◌}
use Rattle.slip_scan.proofs.Rest.{wide_none, wide_rest}
use Rattle.slip_scan.proofs.find_wide.Goals as goal

pub returns-in-Ok : goal.returns-in-Ok
returns-in-Ok c = sym (wide_none _ _ _ c.find_rest.ensures _ c.in-Ok.is)

pub returns-in-Err : goal.returns-in-Err
returns-in-Err c = c.find_rest-in-Err.ensures ∙ sym (wide_rest _ _ _ c.find_rest.ensures _ c.in-Err.is)
