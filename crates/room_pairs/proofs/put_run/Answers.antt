-- `room_pairs::put_run` meets its contract: the loop keeps what `Filling` says, two pairs a turn, and one more may be left.
-- Assumes nothing.
use Prim.Native.Nat.{◌*◌}
use mathlib.Core.Path.{refl}
use native.Mathlib.Omega.{arith}
use lib.ListN.{length-drop}
use Rattle.std.proofs.lemmas.List.{length-map}
use Rattle.bigendian.proofs.Parts.{rest as part-rest}
use Rattle.words.proofs.Turns.{width_above}
use Rattle.pairs.proofs.Wholes.{equal_two, equal_one, equal_none, step_small}
use Rattle.pairs.proofs.Filling.{filling_start, filling_end, one_fits, one_total, one_turn, two_fits, two_room, two_total, two_turn}
use Rattle.room_pairs.proofs.Rooms.{same_length}
use Rattle.room_pairs.proofs.put_run.Goals as goal

pub overflow_mul-step : goal.overflow_mul-step
overflow_mul-step g c = record { fits = step_small c.args.long c.width_of-width.ensures }

pub loop-t-init : goal.loop-t-init
loop-t-init g c = (c.width_of-width.ensures, refl, filling_start _ _ _ c.requires)

pub put_pair-requires : goal.put_pair-requires
put_pair-requires g c =
    let e = equal_two c.args.bytes c.args.long c.loop-t.t.now c.loop-t.invariant.0 c.loop-t.invariant.1 c.loop-t-test.true c.number_in-offset.ensures c.number_in-next.ensures in
    one_fits c.loop-t.invariant.2 _ _ e c.requires.total

pub overflow_add-k : goal.overflow_add-k
overflow_add-k g c =
    let e = equal_two c.args.bytes c.args.long c.loop-t.t.now c.loop-t.invariant.0 c.loop-t.invariant.1 c.loop-t-test.true c.number_in-offset.ensures c.number_in-next.ensures in
    record { fits = omega (arith, two_room c.loop-t.invariant.2 _ _ _ e c.put_pair.ensures c.requires.total, length-map c.args.room.now g.N.RoomNumber.value, c.well_formed) }

pub put_pair-requires-in-loop-t : goal.put_pair-requires-in-loop-t
put_pair-requires-in-loop-t g c =
    let e = equal_two c.args.bytes c.args.long c.loop-t.t.now c.loop-t.invariant.0 c.loop-t.invariant.1 c.loop-t-test.true c.number_in-offset.ensures c.number_in-next.ensures in
    two_fits c.loop-t.invariant.2 _ _ _ e c.put_pair.ensures c.requires.total

pub overflow_add-total : goal.overflow_add-total
overflow_add-total g c =
    let e = equal_two c.args.bytes c.args.long c.loop-t.t.now c.loop-t.invariant.0 c.loop-t.invariant.1 c.loop-t-test.true c.number_in-offset.ensures c.number_in-next.ensures in
    record { fits = one_total c.loop-t.invariant.2 _ _ e c.requires.total }

pub overflow_add-total-in-loop-t : goal.overflow_add-total-in-loop-t
overflow_add-total-in-loop-t g c =
    let e = equal_two c.args.bytes c.args.long c.loop-t.t.now c.loop-t.invariant.0 c.loop-t.invariant.1 c.loop-t-test.true c.number_in-offset.ensures c.number_in-next.ensures in
    record { fits = two_total c.loop-t.invariant.2 _ _ _ e c.put_pair.ensures c.requires.total }

pub overflow_add-k-in-loop-t : goal.overflow_add-k-in-loop-t
overflow_add-k-in-loop-t g c =
    let e = equal_two c.args.bytes c.args.long c.loop-t.t.now c.loop-t.invariant.0 c.loop-t.invariant.1 c.loop-t-test.true c.number_in-offset.ensures c.number_in-next.ensures in
    record { fits = omega (arith, two_room c.loop-t.invariant.2 _ _ _ e c.put_pair.ensures c.requires.total, length-map c.args.room.now g.N.RoomNumber.value, c.well_formed) }

pub loop-t-smaller : goal.loop-t-smaller
loop-t-smaller g c =
    let l = c.loop-t.t.now in
    rw (part-rest _ l) (omega (arith, length-drop (2 * c.width_of-width.result) l, c.loop-t-test.true, c.loop-t.invariant.0, c.loop-t.invariant.1, width_above c.args.long))

pub loop-t-preserved : goal.loop-t-preserved
loop-t-preserved g c =
    let e = equal_two c.args.bytes c.args.long c.loop-t.t.now c.loop-t.invariant.0 c.loop-t.invariant.1 c.loop-t-test.true c.number_in-offset.ensures c.number_in-next.ensures in
    (c.loop-t.invariant.0, c.loop-t.invariant.1, rw (part-rest _ c.loop-t.t.now) (two_turn c.loop-t.invariant.2 _ _ _ e c.put_pair.ensures c.put_pair-in-loop-t.ensures))

pub shape_of-room-then-t-width : goal.shape_of-room-then-t-width
shape_of-room-then-t-width g c = same_length g.N.RoomNumber.value _ _ c.loop-t.invariant.2.same

pub returns-then-t-width : goal.returns-then-t-width
returns-then-t-width g c = filling_end _ _ _ _ _ _ _ c.loop-t.invariant.2 (equal_none c.args.bytes c.args.long c.loop-t.t.now c.loop-t.invariant.0 c.loop-t.invariant.1 c.if-t-width.true)

pub put_pair-requires-2 : goal.put_pair-requires-2
put_pair-requires-2 g c =
    let e = equal_one c.args.bytes c.args.long c.loop-t.t.now c.loop-t.invariant.0 c.loop-t.invariant.1 c.if-t-width.false c.loop-t-test.false c.number_in-offset-2.ensures in
    one_fits c.loop-t.invariant.2 _ _ e c.requires.total

pub overflow_add-result : goal.overflow_add-result
overflow_add-result g c =
    let e = equal_one c.args.bytes c.args.long c.loop-t.t.now c.loop-t.invariant.0 c.loop-t.invariant.1 c.if-t-width.false c.loop-t-test.false c.number_in-offset-2.ensures in
    record { fits = one_total c.loop-t.invariant.2 _ _ e c.requires.total }

pub shape_of-room : goal.shape_of-room
shape_of-room g c =
    let e = equal_one c.args.bytes c.args.long c.loop-t.t.now c.loop-t.invariant.0 c.loop-t.invariant.1 c.if-t-width.false c.loop-t-test.false c.number_in-offset-2.ensures in
    same_length g.N.RoomNumber.value _ _ (one_turn c.loop-t.invariant.2 _ _ e c.put_pair-2.ensures).same

pub returns : goal.returns
returns g c =
    let e = equal_one c.args.bytes c.args.long c.loop-t.t.now c.loop-t.invariant.0 c.loop-t.invariant.1 c.if-t-width.false c.loop-t-test.false c.number_in-offset-2.ensures in
    filling_end _ _ _ _ _ _ _ (one_turn c.loop-t.invariant.2 _ _ e c.put_pair-2.ensures) refl
