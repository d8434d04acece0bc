-- `spans::span_of` meets its contract: the sample at b - 1 is found exactly where b is not above the total.
-- Assumes nothing.
use Rattle.spans.proofs.Spanning.{span_empty, span_long, span_past, first_low, span_found, span_outside}
use native.Mathlib.Omega.{arith}
use mathlib.Core.Path.{refl}
use Rattle.spans.proofs.span_of.Goals as goal

pub returns-then-end-first : goal.returns-then-end-first
returns-then-end-first c = span_empty _ _ _ _ c.if-end-first.true

pub returns-then-stts-gt4294967295 : goal.returns-then-stts-gt4294967295
returns-then-stts-gt4294967295 c = span_long _ _ _ _ c.if-end-first.false c.if-stts-gt4294967295.true

pub returns-then-samples-last : goal.returns-then-samples-last
returns-then-samples-last c = span_past _ _ _ _ c.if-end-first.false c.if-stts-gt4294967295.false _ c.sample_at.ensures _ c.in-Some.is c.if-samples-last.true

pub index_at-from-requires : goal.index_at-from-requires
index_at-from-requires c =
    let h = first_low _ _ _ _ c.sample_at.ensures _ c.in-Some.is c.if-end-first.false (omega arith) in
    (omega (arith, c.if-stts-gt4294967295.false), h.0, h.1)

pub returns-else-samples-last : goal.returns-else-samples-last
returns-else-samples-last c = span_found _ _ _ _ c.if-end-first.false c.if-stts-gt4294967295.false _ c.sample_at.ensures _ c.in-Some.is c.if-samples-last.false _ _ c.index_at-from.ensures refl

pub returns-in-None : goal.returns-in-None
returns-in-None c = span_outside _ _ _ _ c.if-end-first.false c.if-stts-gt4294967295.false _ c.sample_at.ensures c.in-None.is
