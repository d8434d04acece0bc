-- `places::child_part` meets its contract: the rest of the body stands at the place, and the atom that is looked for is the one at `skip` in the rest.
-- Assumes nothing.
use mathlib.Core.Path.{refl, sym, ap, ◌∙◌}
use native.Mathlib.Omega.{arith}
use lib.ListN.{length-drop}
use Rattle.bigendian.proofs.Parts.{rest}
use Rattle.atoms.specs.Atoms.{child_in}
use Rattle.atoms.proofs.Laws.{child_none, child_here, child_past, child_next}
use Rattle.places.specs.Places.{part_in}
use Rattle.places.proofs.Parts.{part_at, at_front, at_next}
use Rattle.places.proofs.child_part.Goals.{then-u32_at-kind+else-skip-eq0, else-u32_at-kind}
use Rattle.places.proofs.child_part.Goals as goal

pub part_of-body-requires : goal.part_of-body-requires
part_of-body-requires c = tt

pub loop-t-init : goal.loop-t-init
loop-t-init c = (rw c.part_of-body.ensures (part_at _ c.args.p), refl)

pub size_in-n-requires : goal.size_in-n-requires
size_in-n-requires c = tt

pub returns-then-n-lt8 : goal.returns-then-n-lt8
unfolding part_in
returns-then-n-lt8 c = sym (child_none _ _ _ c.size_in-n.ensures.value _ c.loop-t.skip c.if-n-lt8.true) ∙ c.loop-t.invariant.1 ∙ ap (child_in _ _ _) c.part_of-body.ensures

pub u32_at-requires : goal.u32_at-requires
u32_at-requires c = tt

pub returns-then-skip-eq0 : goal.returns-then-skip-eq0
unfolding part_in
returns-then-skip-eq0 c =
    at_front _ _ _ _ c.loop-t.invariant.0 c.size_in-n.ensures.upper_bound
    ∙ sym (child_here _ _ _ c.size_in-n.ensures.value _ c.loop-t.skip c.if-n-lt8.false (sym c.u32_at.ensures ∙ c.if-u32_at-kind.true) c.if-skip-eq0.true)
    ∙ c.loop-t.invariant.1
    ∙ ap (child_in _ _ _) c.part_of-body.ensures

pub overflow_add-at : goal.overflow_add-at
overflow_add-at c =
    let h = c.loop-t.invariant.0.ends (omega (arith, c.size_in-n.ensures.upper_bound, c.if-n-lt8.false)) in
    omega (arith, h, c.size_in-n.ensures.upper_bound, c.well_formed.0.0)

pub loop-t-smaller : goal.loop-t-smaller
loop-t-smaller c =
    let t = c.loop-t.t.now in
    rw (rest c.size_in-n.result t) (omega (arith, length-drop c.size_in-n.result t))

pub loop-t-preserved : goal.loop-t-preserved
loop-t-preserved c =
    let l = c.loop-t in
    let t = l.t.now in
    let n = c.size_in-n.result in
    let e = c.size_in-n.ensures.value in
    let h = c.if-n-lt8.false in
    let u = c.u32_at.ensures in
    rw (rest n t) (
      at_next _ t l.at n l.invariant.0 c.size_in-n.ensures.upper_bound,
      elim c.if-u32_at-kind.branch [
        | then-u32_at-kind+else-skip-eq0 w ↦ rw w.skip-is (sym (child_past _ t n e _ l.skip h (sym u ∙ w.if-u32_at-kind.true) w.if-skip-eq0.false) ∙ l.invariant.1)
        | else-u32_at-kind w ↦ rw w.skip-is (sym (child_next _ t n e _ l.skip h (λ q. w.if-u32_at-kind.false (u ∙ q))) ∙ l.invariant.1)
      ],
    )
