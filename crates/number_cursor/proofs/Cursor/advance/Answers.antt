-- `number_cursor::Cursor::advance` meets its contract, by whether a number was read.
-- Assumes nothing.
use mathlib.Core.Path.{sym, ◌∙◌}
use native.Mathlib.Omega.{arith}
use Rattle.std.proofs.lemmas.Result.{err_from_is_err_and}
use Rattle.number_cursor.proofs.Steps.{moved_past, moved_none, counted_min}
use Rattle.number_cursor.proofs.Cursor.advance.Goals as goal

pub returns-in_err-number : goal.returns-in_err-number
returns-in_err-number c =
    let p = err_from_is_err_and c.from_residual.result c.from_residual.ensures.1 in
    let read = sym c.in_err-number.was ∙ c.number_at.ensures in
    (rw (p.1, p.2) read, sym (moved_none c.args.self.now _ _ (sym read)))

pub returns : goal.returns
returns c =
    let read = sym c.in_ok-number.was ∙ c.number_at.ensures in
    let k = c.saturating_add-self.ensures ∙ counted_min c.args.self.now.count (omega arith) in
    (read, rw k (sym (moved_past c.args.self.now _ _ (sym read))))
