-- `atoms::size_top` meets its contract: the tests that led to a return say which case holds.
-- Assumes nothing.
use borrow.Author.Tests.{lt-ltb, le-ltb, eq-eqb, ne_eqb}
use Rattle.atoms.specs.Atoms.{size_top}
use native.Mathlib.Omega.{arith}
use lib.ListN.{length}
use Rattle.atoms.proofs.size_top.Goals as goal

pub returns-then-s-lt8 : goal.returns-then-s-lt8
unfolding size_top
returns-then-s-lt8 c = simp (lt-ltb _ _ c.if-s-lt8.true)

pub u32_at-z-requires : goal.u32_at-z-requires
u32_at-z-requires c = tt

pub returns-then-z-eq0 : goal.returns-then-z-eq0
unfolding size_top
returns-then-z-eq0 c = simp (le-ltb _ _ c.if-s-lt8.false, ← c.u32_at-z.ensures, eq-eqb _ _ c.if-z-eq0.true)

pub fit-requires : goal.fit-requires
fit-requires c = tt

pub returns-then-z-ne1 : goal.returns-then-z-ne1
unfolding size_top
returns-then-z-ne1 c = simp (le-ltb _ _ c.if-s-lt8.false, ← c.u32_at-z.ensures, ne_eqb _ _ c.if-z-eq0.false, ne_eqb _ _ c.if-z-ne1.true) c.fit.ensures

pub returns-then-s-lt16 : goal.returns-then-s-lt16
unfolding size_top
returns-then-s-lt16 c = simp (le-ltb _ _ c.if-s-lt8.false, ← c.u32_at-z.ensures, ne_eqb _ _ c.if-z-eq0.false, eq-eqb _ _ c.if-z-ne1.false, lt-ltb (length c.args.s.now) 16 (omega arith))

pub u64_at-requires : goal.u64_at-requires
u64_at-requires c = tt

pub fit-requires-2 : goal.fit-requires-2
fit-requires-2 c = tt

pub returns : goal.returns
unfolding size_top
returns c =
    simp (le-ltb _ _ c.if-s-lt8.false, ← c.u32_at-z.ensures, ne_eqb _ _ c.if-z-eq0.false, eq-eqb _ _ c.if-z-ne1.false, le-ltb _ _ c.if-s-lt16.false, ← c.u64_at.ensures)
    c.fit-2.ensures
