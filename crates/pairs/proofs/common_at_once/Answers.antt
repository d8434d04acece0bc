-- `pairs::common_at_once` meets its contract: one where the sizes are listed, else what `chunks_at_once` says.
-- Assumes nothing.
use borrow.Author.Rules.{rules}
use borrow.Author.Tests.{eq-eqb, ne_eqb}
use native.Mathlib.Omega.{arith}
use Rattle.pairs.specs.Walks.{common_at_once}
use Rattle.pairs.proofs.common_at_once.Goals as goal

pub returns-then-u32_at-eq0 : goal.returns-then-u32_at-eq0
unfolding common_at_once
returns-then-u32_at-eq0 c = (search rules, λ z. absurd (omega arith), rw (← c.u32_at.ensures, eq-eqb _ 0 c.if-u32_at-eq0.true))

pub returns : goal.returns
unfolding common_at_once
returns c =
    let e = c.u32_at.ensures in
    let o = c.chunks_at_once.ensures in
    (o.0, λ z q. c.if-u32_at-eq0.false (omega (arith, e, q)), rw (← e, ne_eqb _ 0 c.if-u32_at-eq0.false) o.1)
