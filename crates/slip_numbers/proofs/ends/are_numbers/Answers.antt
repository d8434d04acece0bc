-- `slip_numbers::ends::are_numbers` meets its contract: `all_numbers`, where the tests hold.
-- Assumes nothing.
use mathlib.Core.Path.{sym, ◌∙◌}
use native.Mathlib.Omega.{arith}
use borrow.Author.Tests.{eqb-true}
use Rattle.slip_numbers.proofs.Ended.{no_promise, all_numbers}
use Rattle.slip_numbers.proofs.ends.are_numbers.Goals as goal

pub returns-then-from-lt4 : goal.returns-then-from-lt4
returns-then-from-lt4 c = no_promise _

pub returns-in-None : goal.returns-in-None
returns-in-None c = no_promise _

pub returns-in-Some : goal.returns-in-Some
returns-in-Some c =
    λ t.
    let q = eqb-true c.in-Some.ends c.args.c t in
    let e = c.in-Some.ensures in
    all_numbers c.args.bytes.now c.args.from e.1 c.if-bytes-ge128.false c.args.c 6 0 c.args.from (omega arith) (omega arith) (omega arith) (sym e.0 ∙ q)
