-- `pairs::whole_chunks` meets its contract: all of the chunks, or as many as the samples up to the end make.
-- Assumes nothing.
use borrow.Author.Tests.{lt-ltb, le-ltb, le-leb, lt-leb}
use Prim.Native.Nat.{◌-◌}
use native.Mathlib.Omega.{arith}
use Rattle.lists.proofs.Laws.{pos_of_lt_mul, wide_mul}
use Rattle.pairs.proofs.Wholes.{before_end}
use Rattle.pairs.proofs.whole_chunks.Goals as goal

pub returns-then-count-gt4294967295 : goal.returns-then-count-gt4294967295
returns-then-count-gt4294967295 c = (omega arith, omega arith, λ z. absurd (omega arith), rw (lt-ltb _ _ c.if-count-gt4294967295.true))

pub returns-then-end-begin : goal.returns-then-end-begin
returns-then-end-begin c = (omega arith, omega arith, λ z. absurd (omega arith), rw (le-ltb _ _ c.if-count-gt4294967295.false, le-leb _ _ c.if-end-begin.true))

pub overflow_mul-count : goal.overflow_mul-count
overflow_mul-count c = record { fits = wide_mul {a = c.args.count} {b = c.args.per} (omega arith) c.ranges.per.fits }

pub returns-then-count-each : goal.returns-then-count-each
returns-then-count-each c = (omega arith, omega arith, λ z. omega arith, rw (le-ltb _ _ c.if-count-gt4294967295.false, lt-leb _ _ c.if-end-begin.false, le-leb _ _ c.if-count-each.true))

pub nonzero_div-result : goal.nonzero_div-result
nonzero_div-result c = let a = c.args in pos_of_lt_mul a.count a.per (a.end - a.begin) c.if-count-each.false

pub returns : goal.returns
returns c =
    let a = c.args in
    let w = before_end a.count a.per (a.end - a.begin) c.if-count-gt4294967295.false c.if-count-each.false in
    (w.0, w.1, λ z. omega (arith, w.2, c.if-end-begin.false), rw (le-ltb _ _ c.if-count-gt4294967295.false, lt-leb _ _ c.if-end-begin.false, lt-leb _ _ c.if-count-each.false))
