-- `host_slips::slip_refusal` meets its contract: read into no room, a slip is refused 17 where it is malformed and 16 where it is not.
-- Assumes nothing.
use mathlib.Core.Path.{ap, sym, ◌∙◌}
use mathlib.Core.Bool.{cond}
use lib.Dec.{eqb}
use Rattle.slip.specs.Slip.{slip_read_numbers}
use Rattle.hand.specs.Places.{refusal_in}
use Rattle.host_slips.proofs.Judged.{fault_first}
use Rattle.host_slips.proofs.slip_refusal.Goals as goal

pub returns-in-Ok : goal.returns-in-Ok
unfolding slip_read_numbers
returns-in-Ok c = sym (fault_first _ _ ∙ ap (λ ns. cond (eqb (refusal_in ns) 17) 17 0) (sym c.read_slip.ensures.numbers ∙ ap slip_read_numbers c.in-Ok.is))

pub returns-in-Err-Malformed : goal.returns-in-Err-Malformed
unfolding slip_read_numbers
returns-in-Err-Malformed c = sym (fault_first _ _ ∙ ap (λ ns. cond (eqb (refusal_in ns) 17) 17 0) (sym c.read_slip.ensures.numbers ∙ ap slip_read_numbers (rw c.in-Err-Malformed.field-0-is at c.in-Err-Malformed.is)))

pub returns-in-Err-NoRoom : goal.returns-in-Err-NoRoom
unfolding slip_read_numbers
returns-in-Err-NoRoom c = sym (fault_first _ _ ∙ ap (λ ns. cond (eqb (refusal_in ns) 17) 17 0) (sym c.read_slip.ensures.numbers ∙ ap slip_read_numbers (rw c.in-Err-NoRoom.field-0-is at c.in-Err-NoRoom.is)))
