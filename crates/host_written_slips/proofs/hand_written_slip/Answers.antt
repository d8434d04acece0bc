-- `host_written_slips::hand_written_slip` meets its contract: too few places, or case by case of the answer.
-- Assumes nothing.
use mathlib.Core.Path.{refl}
use Rattle.hand.proofs.Answered.{too_few, fills, of_case}
use Rattle.slip_writing.specs.Slips.{slip_refusal, slip_numbers}
use Rattle.host_written_slips.proofs.Judged.{slip_judged}
use Rattle.host_written_slips.proofs.hand_written_slip.Goals as goal

pub returns-then-places-lt1 : goal.returns-then-places-lt1
unfolding slip_refusal
returns-then-places-lt1 c =
    too_few _ _ _ _ _ _ _ _ (slip_judged _ c.args.source _ _ _ _) refl c.if-places-lt1.true
    (rw (c.code.ensures, c.span_refusal-asked.ensures, c.strictly-strict.ensures) at c.or_short.ensures)

pub returns-in-Ok : goal.returns-in-Ok
unfolding slip_numbers
returns-in-Ok c =
    fills _ _ _ _ _ _ _ _ _ _ _ (slip_judged _ _ _ _ _ _) (of_case slip_numbers c.write_slip_of.ensures.answer c.in-Ok.is)
    c.if-places-lt1.false
    c.hand.ensures
    c.write_slip_of.ensures.places

pub returns-in-Err : goal.returns-in-Err
unfolding slip_numbers
returns-in-Err c =
    fills _ _ _ _ _ _ _ _ _ _ _ (slip_judged _ _ _ _ _ _) (of_case slip_numbers c.write_slip_of.ensures.answer c.in-Err.is)
    c.if-places-lt1.false
    (rw c.from.ensures at c.hand-in-Err.ensures)
    c.write_slip_of.ensures.places
