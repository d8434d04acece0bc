-- `steps_into::steps_into` meets its contract; the loop's invariant: the samples put so far are those of a chain of steps to the position.
-- Assumes nothing.
use mathlib.Core.Path.{◌≡◌, refl, ◌∙◌}
use mathlib.Core.Logic.{inl, inr}
use native.Mathlib.Omega.{arith}
use Rattle.step_moves.specs.Moves.{stepped_on}
use Rattle.stepping.specs.Parts.{bytes_in}
use Rattle.stepping.proofs.Stepped.{steps_end, steps_next}
use Rattle.steps_into.proofs.Chained.{at, start, turn, reached}
use Rattle.steps_into.proofs.steps_into.Goals as goal

pub loop-room-init : goal.loop-room-init
loop-room-init c = start _ _ _

pub overflow_sub-room : goal.overflow_sub-room
overflow_sub-room c = omega (arith, c.loop-room.invariant.within, c.loop-room.invariant.same)

pub step_in-step-requires : goal.step_in-step-requires
step_in-step-requires c = c.heads_of-heads.ensures

pub returns-in_default : goal.returns-in_default
returns-in_default c =
    let stepped : let a = c.args in c.step_in-step.result ≡ stepped_on (bytes_in a.lent.now a.from.tables) a.from.samples c.loop-room.m = c.step_in-step.ensures
    ∙ (λ i. stepped_on (record {
      stts = c.part_of-stts.ensures i;
      ctts = c.part_of-ctts.ensures i;
      stsc = c.part_of-stsc.ensures i;
      stsz = c.part_of-stsz.ensures i;
      offsets = c.part_of-offsets.ensures i;
      stss = c.part_of-stss.ensures i;
    }) c.args.from.samples c.loop-room.m) in
    rw c.reached_at.ensures (reached _ _ _ _ _ _ c.loop-room.invariant (inr (steps_end _ (at c.args.from c.loop-room.m) _ (stepped) c.in_default.is)))

pub put_sample-requires : goal.put_sample-requires
put_sample-requires c =
    let stepped : let a = c.args in c.step_in-step.result ≡ stepped_on (bytes_in a.lent.now a.from.tables) a.from.samples c.loop-room.m = c.step_in-step.ensures
    ∙ (λ i. stepped_on (record {
      stts = c.part_of-stts.ensures i;
      ctts = c.part_of-ctts.ensures i;
      stsc = c.part_of-stsc.ensures i;
      stsz = c.part_of-stsz.ensures i;
      offsets = c.part_of-offsets.ensures i;
      stss = c.part_of-stss.ensures i;
    }) c.args.from.samples c.loop-room.m) in
    let low = (steps_next _ (at c.args.from c.loop-room.m) _ (stepped) _ c.in-Some.is (omega arith)).elsewhere.low _ _ refl in
    (low.0, low.1, low.2, omega (arith, c.loop-room-test.true, c.loop-room.invariant.within, c.loop-room.invariant.same))

pub overflow_add-at : goal.overflow_add-at
overflow_add-at c = omega (arith, c.loop-room-test.true, c.loop-room.invariant.within, c.loop-room.invariant.same, c.well_formed)

pub loop-room-smaller : goal.loop-room-smaller
loop-room-smaller c = omega (arith, c.loop-room-test.true, c.loop-room.invariant.within, c.loop-room.invariant.same)

pub loop-room-preserved : goal.loop-room-preserved
loop-room-preserved c =
    let stepped : let a = c.args in c.step_in-step.result ≡ stepped_on (bytes_in a.lent.now a.from.tables) a.from.samples c.loop-room.m = c.step_in-step.ensures
    ∙ (λ i. stepped_on (record {
      stts = c.part_of-stts.ensures i;
      ctts = c.part_of-ctts.ensures i;
      stsc = c.part_of-stsc.ensures i;
      stsz = c.part_of-stsz.ensures i;
      offsets = c.part_of-offsets.ensures i;
      stss = c.part_of-stss.ensures i;
    }) c.args.from.samples c.loop-room.m) in
    turn _ _ _ _ _ _ c.loop-room.invariant _ _ _
    (steps_next _ (at c.args.from c.loop-room.m) _ (stepped) _ c.in-Some.is (omega arith))
    (omega (arith, c.loop-room-test.true, c.loop-room.invariant.within, c.loop-room.invariant.same))
    c.put_sample.ensures

pub returns : goal.returns
returns c = let l = c.loop-room in rw c.reached_at-2.ensures (reached _ _ _ _ _ _ l.invariant (inl (omega (arith, l.invariant.within, l.invariant.same, c.loop-room-test.false))))
