-- `slip_scan::find_rest` meets its contract: a case for each answer of the two checks.
-- Assumes nothing.
use mathlib.Core.Path.{sym, ◌∙◌}
use mathlib.Core.List.{◌++◌}
use Prim.Native.Nat.{ℕ, ◌<◌}
use native.Mathlib.Omega.{arith}
use lib.Dec.{lit<}
use lib.ListN.{get_or, drop}
use Rattle.std.proofs.lemmas.Result.{err_from_is_err_and}
use Rattle.leb128.specs.Reading.{more_of, top_of}
use Rattle.leb128.proofs.Readings.{width}
use Rattle.number_values.specs.Values.{values_from}
use Rattle.number_values.proofs.Values.{stored_same}
use Rattle.slip_scan.proofs.Rest.{head_few, as_wide, filled_at, rest_head, rest_stopped, rest_surplus, rest_whole}
use Rattle.slip_scan.proofs.find_rest.Goals as goal

pub overflow_mul-head : goal.overflow_mul-head
overflow_mul-head c =
    let bs = c.args.bytes.now in
    let wide = c.args.wide in
    let from = c.args.from in
    let w = width wide in
    let are : (x : ℕ) → get_or bs x 0 < 256 = λ i. (c.type_inv.bytes i).fits in
    omega (
      arith,
      filled_at 9 2 bs from c.fill.new.room _ (stored_same (values_from 9 2 c.args.bytes.now 5 c.args.from) _ _ c.fill.ensures) 4 (lit< tt),
      head_few (more_of wide) (top_of wide) 9 2 bs from _ w.seven w.some w.ten (as_wide bs are wide) are (sym c.in_ok-pairs_at.was ∙ c.check_numbers.ensures),
    )

pub returns-in_err-pairs_at : goal.returns-in_err-pairs_at
returns-in_err-pairs_at c =
    let p = err_from_is_err_and c.from_residual.result c.from_residual.ensures.1 in
    rw (p.1, p.2) (sym (rest_head _ _ _ _ _ c.check_numbers.ensures _ c.in_err-pairs_at.was))

pub returns-in_err-end : goal.returns-in_err-end
returns-in_err-end c =
    let p = err_from_is_err_and c.from_residual-in_err-end.result c.from_residual-in_err-end.ensures.1 in
    rw (p.1, p.2)
    (sym (rest_stopped _ _ 9 2 _ (as_wide c.args.bytes.now (λ i. (c.type_inv.bytes i).fits) c.args.wide) _ _ _ c.check_numbers.ensures c.in_ok-pairs_at.was _ _ (stored_same (values_from 9 2 c.args.bytes.now 5 c.args.from) _ _ c.fill.ensures) _ c.check_pairs.ensures _ c.in_err-end.was))

pub returns-then-end-bytes : goal.returns-then-end-bytes
returns-then-end-bytes c =
    sym (rest_surplus _ _ 9 2 _ (as_wide c.args.bytes.now (λ i. (c.type_inv.bytes i).fits) c.args.wide) _ _ _ c.check_numbers.ensures c.in_ok-pairs_at.was _ _ (stored_same (values_from 9 2 c.args.bytes.now 5 c.args.from) _ _ c.fill.ensures) _ c.check_pairs.ensures _ c.in_ok-end.was c.if-end-bytes.true)

pub returns : goal.returns
returns c =
    sym (rest_whole _ _ 9 2 _ (as_wide c.args.bytes.now (λ i. (c.type_inv.bytes i).fits) c.args.wide) _ _ _ c.check_numbers.ensures c.in_ok-pairs_at.was _ _ (stored_same (values_from 9 2 c.args.bytes.now 5 c.args.from) _ _ c.fill.ensures) _ c.check_pairs.ensures _ c.in_ok-end.was c.if-end-bytes.false)
