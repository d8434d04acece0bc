-- `slip_numbers::check_numbers` meets its contract: the invariant says that what is left to check decides what all of it is.
-- Assumes nothing.
use mathlib.Core.Path.{◌≡◌, refl, sym, ◌∙◌}
use Prim.Native.Nat.{◌+◌, ◌<◌, ◌^◌, ◌-◌}
use native.Mathlib.Omega.{arith}
use Rattle.std.proofs.lemmas.Result.{err_from_is_err_and}
use Rattle.leb128.specs.Reading.{more_of, top_of}
use Rattle.leb128.proofs.Readings.{read_next, width}
use Rattle.number_cursor.proofs.Steps.{step_moved, counted_one}
use Rattle.slip_numbers.proofs.Runs.{check_none, check_good, check_fault, check_absent}
use Rattle.slip_numbers.proofs.check_numbers.Goals as goal

pub loop-init : goal.loop-init
loop-init c = let z : c.args.c - 0 ≡ c.args.c = omega arith in (rw z refl, c.requires)

pub returns-in_err-n : goal.returns-in_err-n
returns-in_err-n c =
    let p = err_from_is_err_and c.from_residual.result c.from_residual.ensures.1 in
    let left : 0 < c.args.c - c.loop.counter = omega arith in
    rw (p.1, p.2) (sym (c.loop.invariant.0 ∙ check_absent _ _ _ _ _ _ _ left _ c.advance.ensures.0 _ c.in_err-n.was))

pub returns-then-not-rule_allows : goal.returns-then-not-rule_allows
returns-then-not-rule_allows c =
    let left : 0 < c.args.c - c.loop.counter = omega arith in
    sym (c.loop.invariant.0 ∙ check_fault _ _ _ _ _ _ _ left _ c.advance.ensures.0 _ _ c.in_ok-n.was (sym c.rule_allows.ensures ∙ c.if-not-rule_allows.true))

pub loop-preserved : goal.loop-preserved
loop-preserved c =
    let l = c.loop in
    let m = step_moved l.cursor _ _ _ c.advance.ensures.1 (sym c.advance.ensures.0 ∙ c.in_ok-n.was) in
    let w = width l.cursor.wide in
    let past = read_next (top_of l.cursor.wide) c.args.bytes.now l.cursor.at (more_of l.cursor.wide) _ _ w.some w.seven (λ i. (c.type_inv.bytes i).fits) (sym c.advance.ensures.0 ∙ c.in_ok-n.was) in
    let few : l.cursor.count < 2 ^ 64 - 1 = omega (arith, l.invariant.1, past, c.well_formed) in
    let one = counted_one l.cursor.count few in
    let left : 0 < c.args.c - l.counter = omega arith in
    let s : c.args.c - l.counter - 1 ≡ c.args.c - (l.counter + 1) = omega arith in (
      rw (m.0, m.1, m.2, one, ← s) (l.invariant.0 ∙ check_good _ _ _ _ _ _ _ left _ c.advance.ensures.0 _ _ c.in_ok-n.was (sym c.rule_allows.ensures ∙ c.if-not-rule_allows.false)),
      omega (arith, m.0, m.1, one, l.invariant.1, past),
    )

pub returns : goal.returns
returns c =
    let z : c.args.c - c.loop.counter ≡ 0 = omega arith in
    sym (c.loop.invariant.0 ∙ check_none _ _ _ _ _ _ _ z)
