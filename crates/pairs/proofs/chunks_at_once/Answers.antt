-- `pairs::chunks_at_once` meets its contract: one chunk where a test fails; else whole ones, whose offsets are there.
-- Assumes nothing.
use borrow.Author.Rules.{rules}
use borrow.Author.Tests.{eq-eqb, ne_eqb, lt-ltb}
use native.Mathlib.Omega.{arith}
use Rattle.pairs.specs.Walks.{chunks_at_once}
use Rattle.pairs.proofs.Wholes.{one_at_once, one_of_none, one_of_few, all_of_these}
use Rattle.pairs.proofs.chunks_at_once.Goals as goal

pub returns-then-count-eq1 : goal.returns-then-count-eq1
unfolding chunks_at_once
returns-then-count-eq1 c = (search rules, rw (eq-eqb _ 1 c.if-count-eq1.true))

pub returns-then-begin-from : goal.returns-then-begin-from
unfolding chunks_at_once
returns-then-begin-from c = (search rules, rw (ne_eqb _ 1 c.if-count-eq1.false, lt-ltb _ _ c.if-begin-from.true))

pub returns-then-n-eq0 : goal.returns-then-n-eq0
returns-then-n-eq0 c = (one_at_once _ _ _ _ _ c.requires.0, one_of_none _ _ _ _ _ c.if-count-eq1.false c.if-begin-from.false _ _ 0 c.whole_end.ensures.2 c.whole_chunks-n.ensures.3 c.if-n-eq0.true)

pub returns-then-offsets_there-p : goal.returns-then-offsets_there-p
returns-then-offsets_there-p c = (one_at_once _ _ _ _ _ c.requires.0, one_of_few _ _ _ _ _ c.if-count-eq1.false c.if-begin-from.false _ _ _ c.whole_end.ensures.2 c.whole_chunks-n.ensures.3 c.if-n-eq0.false c.offsets_there.ensures c.if-offsets_there-p.true)

pub returns : goal.returns
returns c =
    let w = c.whole_chunks-n.ensures in
    let e = c.whole_end.ensures in
    let t = w.2 c.if-n-eq0.false in (
      record {
        some = omega (arith, c.if-n-eq0.false);
        few = w.0;
        whole = λ z. record {
          from = c.if-begin-from.false;
          to = omega (arith, t, e.0);
          there = omega (arith, c.offsets_there.ensures, c.if-offsets_there-p.false);
          common = λ o. omega (arith, t, e.1 o);
        };
      },
      all_of_these _ _ _ _ _ c.if-count-eq1.false c.if-begin-from.false _ _ _ e.2 w.3 c.if-n-eq0.false c.offsets_there.ensures c.if-offsets_there-p.false,
    )
