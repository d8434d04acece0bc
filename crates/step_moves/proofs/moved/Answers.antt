-- `step_moves::moved` meets its contract: the sample is what the places say, and the places are moved past it.
-- Assumes nothing.
use mathlib.Core.Path.{ap, ◌∙◌}
use native.Mathlib.Omega.{arith}
use lib.IntN.{pos, ◌+ℤ◌}
use Rattle.bigendian.proofs.Halves.{kept}
use Rattle.positions.proofs.Standing.{may_known}
use Rattle.questions.proofs.Shift.{narrowed, passed_narrow}
use Rattle.step_moves.proofs.Answers.{moved_to, sync_none, sync_some}
use Rattle.step_moves.proofs.moved.Goals.{then-is_empty, else-is_empty}
use Rattle.step_moves.proofs.moved.Goals as goal

pub overflow_cast-m : goal.overflow_cast-m
overflow_cast-m c = record { fits = omega (arith, (may_known c.args.m c.requires.1).2) }

pub overflow_cast-shift_of : goal.overflow_cast-shift_of
overflow_cast-shift_of c = narrowed c.shift_of.result c.shift_of.ensures.1

pub shifted-requires : goal.shifted-requires
shifted-requires c = tt

pub overflow_cast-sample : goal.overflow_cast-sample
overflow_cast-sample c = record { fits = omega (arith, c.well_formed.1.1.1.0.1.1.1.1.1.1.0.1.1.1.0) }

pub returns : goal.returns
returns c =
    let m = c.args.m in
    let x = c.args.stss.now in
    let comp = kept c.shifted.result c.shifted.type_inv ∙ c.shifted.ensures ∙ ap (λ z. pos m.decode +ℤ z) (passed_narrow c.shift_of.result c.shift_of.ensures.1 ∙ c.shift_of.ensures.0) in
    moved_to _ _ m _ _ _ _ _ c.size_by-size.ensures c.sync_step-place.ensures comp
    (elim c.if-is_empty.branch [
      | then-is_empty w ↦ w.sample-is ∙ sync_none x c.sync_step-place.result.listed _ c.is_empty.ensures w.if-is_empty.true
      | else-is_empty w ↦ w.sample-is ∙ sync_some x c.sync_step-place.result.listed _ c.is_empty.ensures w.if-is_empty.false
    ])
    c.pass_sample-past.ensures
