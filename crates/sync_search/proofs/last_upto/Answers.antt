-- `sync_search::last_upto` meets its contract: each turn is one of the search by halving.
-- Assumes nothing.
use Prim.Native.Nat.{◌-◌}
use mathlib.Core.Path.{refl}
use native.Mathlib.Omega.{arith}
use Rattle.bigendian.specs.BigEndian.{u32_at}
use Rattle.lists.proofs.Halving.{halves_start, halves_up, halves_down, halves_end, not_above, is_above}
use Rattle.sync_search.proofs.last_upto.Goals as goal

pub loop-high-init : goal.loop-high-init
loop-high-init c = (omega arith, omega arith, halves_start _ _)

pub overflow_sub-high : goal.overflow_sub-high
overflow_sub-high c = omega arith

pub overflow_sub-middle : goal.overflow_sub-middle
overflow_sub-middle c = omega arith

pub overflow_add-middle : goal.overflow_add-middle
overflow_add-middle c = omega arith

pub overflow_mul-middle : goal.overflow_mul-middle
overflow_mul-middle c = omega arith

pub u32_at-requires : goal.u32_at-requires
u32_at-requires c = tt

pub loop-high-smaller-then-u32_at-x : goal.loop-high-smaller-then-u32_at-x
loop-high-smaller-then-u32_at-x c = omega arith

pub loop-high-preserved-then-u32_at-x : goal.loop-high-preserved-then-u32_at-x
loop-high-preserved-then-u32_at-x c =
    let l = c.loop-high in
    let h = c.loop-high-test.true in
    (omega arith, omega arith, halves_up _ _ _ _ _ h refl l.invariant.2 (not_above _ _ _ c.u32_at.ensures c.if-u32_at-x.true))

pub loop-high-smaller : goal.loop-high-smaller
loop-high-smaller c = omega arith

pub loop-high-preserved : goal.loop-high-preserved
loop-high-preserved c =
    let l = c.loop-high in
    let h = c.loop-high-test.true in
    (omega arith, omega arith, halves_down _ _ _ _ _ h refl l.invariant.2 (is_above _ _ _ c.u32_at.ensures c.if-u32_at-x.false))

pub returns : goal.returns
returns c = let l = c.loop-high in halves_end _ _ _ _ c.loop-high-test.false l.invariant.2
