-- `chunks::ready` meets its contract: a cursor past an entry of no chunks is readied to the same one.
-- Assumes nothing.
use Prim.Native.Nat.{◌-◌}
use mathlib.Core.Path.{refl, sym, ap, ◌∙◌}
use native.Mathlib.Omega.{arith}
use lib.ListN.{length, take, drop, length-drop}
use Rattle.bigendian.proofs.Parts.{rest as part-rest}
use Rattle.chunks.proofs.Cursors.{ready_stop, ready_end, ready_next}
use Rattle.chunks.proofs.ready.Goals as goal

pub loop-r-init : goal.loop-r-init
loop-r-init c = (refl, λ h. h)

pub returns-then-stsc-at : goal.returns-then-stsc-at
returns-then-stsc-at c =
    let l = c.loop-r in
    let s = c.args.stsc.now in
    (sym (ready_end _ _ l.r refl (omega (arith, length-drop l.r.at s, c.if-stsc-at.true))) ∙ l.invariant.0, l.invariant.1)

pub returns-then-t-lt-ENTRY : goal.returns-then-t-lt-ENTRY
returns-then-t-lt-ENTRY c =
    let s = c.args.stsc.now in
    (sym (ready_end _ _ c.loop-r.r (part-rest c.loop-r.r.at s) c.if-t-lt-ENTRY.true) ∙ c.loop-r.invariant.0, c.loop-r.invariant.1)

pub overflow_add-r : goal.overflow_add-r
overflow_add-r c = omega (arith, c.well_formed.0.0, c.if-t-lt-ENTRY.false, ap length (part-rest c.loop-r.r.at c.args.stsc.now), length-drop c.loop-r.r.at c.args.stsc.now)

pub loop-r-smaller : goal.loop-r-smaller
loop-r-smaller c =
    let s = c.args.stsc.now in
    omega (arith, c.if-t-lt-ENTRY.false, ap length (part-rest c.loop-r.r.at s), length-drop c.loop-r.r.at s)

pub loop-r-preserved : goal.loop-r-preserved
loop-r-preserved c =
    let l = c.loop-r in
    let s = c.args.stsc.now in (
      ready_next _ _ l.r (part-rest l.r.at s) c.if-t-lt-ENTRY.false c.loop-r-test.true (part-rest 12 (take (length s - l.r.at) (drop l.r.at s)))
          c.u32_at-first.ensures c.first_of-next.ensures.0 c.span.ensures c.u32_at.ensures c.u32_at-in-loop-r.ensures
          ∙ l.invariant.0,
      λ h. omega (arith, c.span.ensures, c.first_of-next.ensures.1),
    )

pub returns : goal.returns
returns c =
    let l = c.loop-r in
    (sym (ready_stop _ _ l.r c.loop-r-test.false) ∙ l.invariant.0, l.invariant.1)
