-- `slip::read_into` meets its contract: a case for each answer of `find_slip`, and for room that is too short.
-- Assumes nothing.
use mathlib.Core.Path.{◌≡◌, sym, ap, ◌∙◌}
use native.Mathlib.Omega.{arith}
use Rattle.std.proofs.lemmas.Result.{err_from_is_err_and}
use Rattle.slip.proofs.Found.{found_accepted, found_few, found_malformed, into_malformed, into_no_room, into_accepted}
use Rattle.number_values.proofs.Values.{length_values}
use Rattle.slip.proofs.read_into.Goals as goal

pub overflow_mul-n : goal.overflow_mul-n
overflow_mul-n g c = omega (arith, found_few _ _ (λ i. (c.type_inv.bytes i).fits) _ c.find_slip.ensures _ c.in_ok-slip.was)

pub returns-in_err-slip : goal.returns-in_err-slip
returns-in_err-slip g c =
    let p = err_from_is_err_and c.from_residual.result c.from_residual.ensures.1 in
    let i = into_malformed g.T.RoomNumber.stored g.T.RoomNumber.WIDE c.args.bytes.now c.args.room.now _ (found_malformed _ _ (λ i. (c.type_inv.bytes i).fits) _ (rw c.WIDE.ensures at c.find_slip.ensures) _ c.in_err-slip.was) in
    record { numbers = rw (p.1, p.2) i.numbers; places = i.places }

pub returns-then-room-n : goal.returns-then-room-n
returns-then-room-n g c =
    let f = found_accepted _ _ (λ i. (c.type_inv.bytes i).fits) _ (rw c.WIDE.ensures at c.find_slip.ensures) _ c.in_ok-slip.was in
    let i = into_no_room g.T.RoomNumber.stored g.T.RoomNumber.WIDE c.args.bytes.now c.args.room.now _ _ f (length_values _ _ _ _ _) c.if-room-n.true in
    record { numbers = i.numbers; places = i.places }

pub returns : goal.returns
returns g c =
    let f = found_accepted _ _ (λ i. (c.type_inv.bytes i).fits) _ (rw c.WIDE.ensures at c.find_slip.ensures) _ c.in_ok-slip.was in
    let i = into_accepted g.T.RoomNumber.stored g.T.RoomNumber.WIDE c.args.bytes.now c.args.room.now _ _ f (length_values _ _ _ _ _) c.if-room-n.false _ c.fill.ensures in
    record { numbers = i.numbers; places = i.places }
