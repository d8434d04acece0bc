-- `descriptions::greatest_size` meets its contract; the loop's invariant: the greatest so far and that of the rest make that of the
-- whole, for width and height.
-- Assumes nothing.
use Prim.Native.Nat.{max}
use mathlib.Core.Path.{ap, ◌∙◌, sym}
use native.Mathlib.Omega.{arith}
use lib.ListN.{length-drop}
use lib.Seq.{length-take-le}
use Rattle.bigendian.proofs.Parts.{rest}
use Rattle.atoms.specs.Pieces.{pieces}
use Rattle.leaves.specs.Leaves.{size_entry}
use Rattle.descriptions.specs.Descriptions.{width_of, height_of, greatest, picture_size}
use Rattle.descriptions.proofs.Cut.{greatest_none, greatest_next}
use Rattle.descriptions.proofs.greatest_size.Goals as goal

pub after-part-requires : goal.after-part-requires
after-part-requires c = tt

pub loop-t-init : goal.loop-t-init
loop-t-init c =
    let e = c.after-part.ensures in
    (omega (arith, ap (λ t. greatest width_of (pieces (size_entry 36) t)) e), omega (arith, ap (λ t. greatest height_of (pieces (size_entry 36) t)) e))

pub entry_size-z-requires : goal.entry_size-z-requires
entry_size-z-requires c = tt

pub returns-then-z-eq0 : goal.returns-then-z-eq0
unfolding picture_size
returns-then-z-eq0 c =
    let l = c.loop-t in
    let e = c.entry_size-z.ensures.value in
    let w = greatest_none _ l.t.now e width_of _ _ c.if-z-eq0.true l.invariant.0 in
    let h = greatest_none _ l.t.now e height_of _ _ c.if-z-eq0.true l.invariant.1 in
    λ i. record { width = w i; height = h i }

pub slice_bounds-d-end : goal.slice_bounds-d-end
slice_bounds-d-end c = sym (length-take-le _ _ c.entry_size-z.ensures.upper_bound)

pub u16_at-requires : goal.u16_at-requires
u16_at-requires c = tt

pub u16_at-requires-in-loop-t : goal.u16_at-requires-in-loop-t
u16_at-requires-in-loop-t c = tt

pub loop-t-smaller : goal.loop-t-smaller
loop-t-smaller c =
    let t = c.loop-t.t.now in
    let z = c.entry_size-z.result in
    rw (rest z t) (omega (arith, length-drop z t))

pub loop-t-preserved : goal.loop-t-preserved
loop-t-preserved c =
    let l = c.loop-t in
    let d = c.entry_size-z in
    let t = l.t.now in
    let w = c.max-width.ensures ∙ ap (max l.width) c.u16_at.ensures in
    let h = c.max-height.ensures ∙ ap (max l.height) c.u16_at-in-loop-t.ensures in
    rw (rest d.result t) (
      greatest_next _ t d.ensures.value width_of _ _ _ c.if-z-eq0.false d.ensures.upper_bound w l.invariant.0,
      greatest_next _ t d.ensures.value height_of _ _ _ c.if-z-eq0.false d.ensures.upper_bound h l.invariant.1,
    )
