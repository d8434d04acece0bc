-- `peaks::has_entries` meets its contract: each test that fails is one of the conditions.
-- Assumes nothing.
use borrow.Author.Tests.{eqb-true}
use mathlib.Core.Path.{sym, ◌∙◌}
use native.Mathlib.Omega.{arith}
use Rattle.windows.proofs.Bests.{untrue}
use Rattle.peaks.proofs.has_entries.Goals as goal

pub returns-then-tail-ne1 : goal.returns-then-tail-ne1
returns-then-tail-ne1 c = untrue

pub returns-then-head-ne1 : goal.returns-then-head-ne1
returns-then-head-ne1 c = untrue

pub returns-then-head-tail : goal.returns-then-head-tail
returns-then-head-tail c = untrue

pub returns-then-stts-head : goal.returns-then-stts-head
returns-then-stts-head c = untrue

pub returns : goal.returns
returns c e =
    record {
      tail = c.if-tail-ne1.false;
      head = c.if-head-ne1.false;
      order = omega (arith, c.if-head-tail.false);
      inside = omega (arith, c.if-stts-head.false);
      listed = sym c.u32_at.ensures ∙ eqb-true _ _ e;
    }
