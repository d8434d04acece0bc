-- `shape::walk_traks` meets its contract: the rest of the body stands at the place, and its tracks are still to be judged.
-- Assumes nothing.
use mathlib.Core.Path.{refl, sym, ap, ◌∙◌}
use native.Mathlib.Omega.{arith}
use lib.ListN.{length-drop}
use Rattle.bigendian.proofs.Parts.{rest}
use Rattle.atoms.specs.Atoms.{body_of}
use Rattle.refusals.specs.Refusals.{code}
use Rattle.places.specs.Places.{part_in}
use Rattle.places.proofs.Parts.{part_at, at_front, at_next}
use Rattle.shape.proofs.Walking.{walk_start, walk_end, walk_next, walk_here}
use Rattle.shape.proofs.walk_traks.Goals.{then-u32_at-eq-TRAK, else-u32_at-eq-TRAK}
use Rattle.shape.proofs.walk_traks.Goals as goal

pub part_of-body-requires : goal.part_of-body-requires
part_of-body-requires c = tt

pub no_traks-traks-requires : goal.no_traks-traks-requires
no_traks-traks-requires c = tt

pub loop-t-init : goal.loop-t-init
loop-t-init c = (rw c.part_of-body.ensures (part_at _ c.args.moov), walk_start _ _ _ _ c.no_traks-traks.ensures)

pub size_in-n-requires : goal.size_in-n-requires
size_in-n-requires c = tt

pub returns-then-n-lt8 : goal.returns-then-n-lt8
returns-then-n-lt8 c = rw (← c.part_of-body.ensures) (walk_end _ _ _ _ _ c.size_in-n.ensures.value _ _ c.loop-t.invariant.1 _ refl refl c.if-n-lt8.true)

pub u32_at-requires : goal.u32_at-requires
u32_at-requires c = tt

pub body_part-requires : goal.body_part-requires
body_part-requires c = tt

pub trak_of-trak-requires : goal.trak_of-trak-requires
trak_of-trak-requires c = tt

pub part_of-requires : goal.part_of-requires
part_of-requires c = tt

pub track_refusal-requires : goal.track_refusal-requires
track_refusal-requires c = rw (c.part_of.ensures ∙ c.trak_of-trak.ensures.body) c.trak_of-trak.ensures.parts

pub earlier_refusal-refusal-requires : goal.earlier_refusal-refusal-requires
earlier_refusal-refusal-requires c = tt

pub with_trak-traks-requires : goal.with_trak-traks-requires
with_trak-traks-requires c = tt

pub overflow_add-at : goal.overflow_add-at
overflow_add-at c =
    let h = c.loop-t.invariant.0.ends (omega (arith, c.size_in-n.ensures.upper_bound, c.if-n-lt8.false)) in
    omega (arith, h, c.size_in-n.ensures.upper_bound, c.well_formed.0.0)

pub loop-t-smaller : goal.loop-t-smaller
loop-t-smaller c =
    let t = c.loop-t.t.now in
    rw (rest c.size_in-n.result t) (omega (arith, length-drop c.size_in-n.result t, c.if-n-lt8.false))

pub loop-t-preserved : goal.loop-t-preserved
unfolding part_in
loop-t-preserved c =
    let l = c.loop-t in
    let t = l.t.now in
    let n = c.size_in-n.result in
    let e = c.size_in-n.ensures.value in
    let h = c.if-n-lt8.false in
    let u = c.u32_at.ensures in
    let f = at_front _ t l.at n l.invariant.0 c.size_in-n.ensures.upper_bound in
    rw (rest n t) (
      at_next _ t l.at n l.invariant.0 c.size_in-n.ensures.upper_bound,
      elim c.if-u32_at-eq-TRAK.branch [
        | then-u32_at-eq-TRAK w ↦
            let k = w.part_of.ensures ∙ w.trak_of-trak.ensures.body in
            walk_here _ _ _ t n e (code l.refusal) l.traks l.invariant.1 h _ _ _ _ _ (sym u ∙ w.if-u32_at-eq-TRAK.true) (k ∙ w.body_part.ensures ∙ ap body_of f) (rw k w.trak_of-trak.ensures) w.track_refusal.ensures
            (ap code w.refusal-is ∙ w.earlier_refusal-refusal.ensures) (w.traks-is ∙ w.with_trak-traks.ensures)
        | else-u32_at-eq-TRAK w ↦ walk_next _ _ _ t n e (code l.refusal) l.traks l.invariant.1 h _ _ (λ q. w.if-u32_at-eq-TRAK.false (u ∙ q)) (ap code w.refusal-is) w.traks-is
      ],
    )
