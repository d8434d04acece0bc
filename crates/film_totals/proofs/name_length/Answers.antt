-- `film_totals::name_length` meets its contract. The loop's invariant: no line feed is among the first i bytes.
-- Assumes nothing.
use native.Mathlib.Omega.{arith}
use Rattle.film_totals.proofs.Names.{feed_here, feed_later, no_feed}
use Rattle.film_totals.proofs.name_length.Goals as goal

pub loop-i-init : goal.loop-i-init
loop-i-init c = (omega arith, omega arith)

pub returns-then-names-i-eq10 : goal.returns-then-names-i-eq10
returns-then-names-i-eq10 c =
    let names = c.args.names.now in
    let h = c.loop-i-test.true in
    (omega (arith, feed_here names c.loop-i.i h c.if-names-i-eq10.true, c.loop-i.invariant.1), omega (arith, h))

pub loop-i-preserved : goal.loop-i-preserved
loop-i-preserved c =
    let names = c.args.names.now in
    let h = c.loop-i-test.true in
    (omega (arith, h), omega (arith, feed_later names c.loop-i.i h c.if-names-i-eq10.false, c.loop-i.invariant.1))

pub returns : goal.returns
returns c =
    let names = c.args.names.now in
    (omega (arith, no_feed names c.loop-i.i c.loop-i-test.false, c.loop-i.invariant.1), c.loop-i.invariant.0)
