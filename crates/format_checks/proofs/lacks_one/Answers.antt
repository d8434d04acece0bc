-- `format_checks::lacks_one` meets its contract; the loop's invariant: the descriptions of the rest decide for all of them.
-- Assumes nothing.
use native.Mathlib.Omega.{arith}
use mathlib.Core.Path.{sym, ◌∙◌}
use lib.ListN.{length-drop}
use lib.Seq.{length-take-le}
use Rattle.bigendian.proofs.Parts.{rest}
use Rattle.format_checks.proofs.Formats.{lacks_none, lacks_here, lacks_next}
use Rattle.format_checks.proofs.lacks_one.Goals as goal

pub after-part-requires : goal.after-part-requires
after-part-requires c = tt

pub loop-t-init : goal.loop-t-init
loop-t-init c = rw c.after-part.ensures

pub entry_size-z-requires : goal.entry_size-z-requires
entry_size-z-requires c = tt

pub returns-then-z-eq0 : goal.returns-then-z-eq0
returns-then-z-eq0 c =
    let l = c.loop-t in
    sym (lacks_none _ l.t.now c.entry_size-z.ensures.value _ c.if-z-eq0.true) ∙ l.invariant

pub slice_bounds-d-end : goal.slice_bounds-d-end
slice_bounds-d-end c = sym (length-take-le _ _ c.entry_size-z.ensures.upper_bound)

pub u32_at-requires : goal.u32_at-requires
u32_at-requires c = tt

pub is_named-requires : goal.is_named-requires
is_named-requires c = tt

pub returns-then-not-is_named : goal.returns-then-not-is_named
returns-then-not-is_named c =
    let l = c.loop-t in
    let d = c.entry_size-z in
    let n = sym c.is_named.ensures ∙ c.if-not-is_named.true in
    sym (lacks_here _ l.t.now d.ensures.value c.if-z-eq0.false d.ensures.upper_bound _ c.u32_at.ensures _ n) ∙ l.invariant

pub loop-t-smaller : goal.loop-t-smaller
loop-t-smaller c =
    let t = c.loop-t.t.now in
    let z = c.entry_size-z.result in
    rw (rest z t) (omega (arith, length-drop z t))

pub loop-t-preserved : goal.loop-t-preserved
loop-t-preserved c =
    let l = c.loop-t in
    let d = c.entry_size-z in
    let t = l.t.now in
    let n = sym c.is_named.ensures ∙ c.if-not-is_named.false in
    rw (rest d.result t)
    (sym (lacks_next _ t d.ensures.value c.if-z-eq0.false d.ensures.upper_bound _ c.u32_at.ensures _ n) ∙ l.invariant)
