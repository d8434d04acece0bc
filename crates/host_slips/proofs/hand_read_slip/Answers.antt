-- `host_slips::hand_read_slip` meets its contract: too few places, or case by case of the answer.
-- Assumes nothing.
use mathlib.Core.Path.{refl, ap, sym, ◌∙◌}
use Rattle.slip.specs.Slip.{slip_read_numbers}
use Rattle.hand.proofs.Answered.{too_few_first, fills_first}
use Rattle.host_slips.proofs.Judged.{read_first, read_six, read_room}
use Rattle.host_slips.proofs.hand_read_slip.Goals as goal

pub returns-then-places-lt6 : goal.returns-then-places-lt6
returns-then-places-lt6 c = too_few_first _ _ _ _ _ _ _ _ (read_first _ _) (read_six _ _) refl c.if-places-lt6.true (rw (← c.slip_refusal.ensures) c.or_short.ensures)

pub returns-in-Ok : goal.returns-in-Ok
unfolding slip_read_numbers
returns-in-Ok c =
    let q = c.read_slip.ensures in
    fills_first _ _ _ _ _ _ _ _ _ _ (read_first _ _) (sym q.numbers ∙ ap slip_read_numbers c.in-Ok.is)
    c.if-places-lt6.false
    c.hand.ensures
    (q.places ∙ read_room _ _)

pub returns-in-Err-Malformed : goal.returns-in-Err-Malformed
unfolding slip_read_numbers
returns-in-Err-Malformed c =
    let q = c.read_slip.ensures in
    fills_first _ _ _ _ _ _ _ _ _ _ (read_first _ _) (sym q.numbers ∙ ap slip_read_numbers (rw c.in-Err-Malformed.field-0-is at c.in-Err-Malformed.is))
    c.if-places-lt6.false
    c.hand-in-Err-Malformed.ensures
    (q.places ∙ read_room _ _)

pub returns-in-Err-NoRoom : goal.returns-in-Err-NoRoom
unfolding slip_read_numbers
returns-in-Err-NoRoom c =
    let q = c.read_slip.ensures in
    fills_first _ _ _ _ _ _ _ _ _ _ (read_first _ _) (sym q.numbers ∙ ap slip_read_numbers (rw c.in-Err-NoRoom.field-0-is at c.in-Err-NoRoom.is))
    c.if-places-lt6.false
    c.hand-in-Err-NoRoom.ensures
    (q.places ∙ read_room _ _)
