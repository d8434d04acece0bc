-- `number_values::fill` meets its contract: the invariant says that the values left, stored from j on, make what all of them make of the room at entry.
-- Assumes nothing.
use mathlib.Core.Path.{◌≡◌, sym, ◌∙◌}
use mathlib.Core.List.{◌++◌}
use Prim.Native.Nat.{◌+◌, ◌-◌}
use native.Mathlib.Nat.{zero-add}
use native.Mathlib.Omega.{arith}
use lib.ListN.{length, drop}
use lib.Seq.{sets, sets-eq}
use Rattle.std.specs.Prelude.{map}
use Rattle.std.proofs.lemmas.List.{length-map}
use Rattle.leb128.specs.Reading.{more_of, top_of}
use Rattle.leb128.proofs.Readings.{width}
use Rattle.number_values.specs.Values.{values_from}
use Rattle.number_values.proofs.Values.{length_values, value_below, fill_turn}
use Rattle.number_values.proofs.fill.Goals as goal

pub store-requires : goal.store-requires
store-requires g c =
    let w = width g.T.RoomNumber.WIDE in
    rw (rw c.WIDE.ensures at c.number_or_zero-number.ensures.value) (value_below _ _ c.args.bytes.now c.loop-j.p w.some w.seven (λ i. (c.type_inv.bytes i).fits))

pub loop-j-preserved : goal.loop-j-preserved
loop-j-preserved g c =
    let l = c.loop-j in
    let a = c.args in
    let v = rw c.WIDE.ensures at c.number_or_zero-number.ensures.value in
    let q = rw c.WIDE.ensures at c.number_or_zero-number.ensures.next in
    rw (c.store.ensures, v, q) (sym (fill_turn g.T.RoomNumber.stored _ _ a.bytes.now l.room l.j a.n l.p c.loop-j-test.true) ∙ l.invariant)

pub returns : goal.returns
unfolding values_from
returns g c =
    let l = c.loop-j in
    let a = c.args in
    let vs = map g.T.RoomNumber.stored (values_from (more_of g.T.RoomNumber.WIDE) (top_of g.T.RoomNumber.WIDE) a.bytes.now a.n a.at) in
    let z : a.n - l.j ≡ 0 = omega arith in
    let k = length-map (values_from (more_of g.T.RoomNumber.WIDE) (top_of g.T.RoomNumber.WIDE) a.bytes.now a.n a.at) g.T.RoomNumber.stored ∙ length_values _ _ a.bytes.now a.n a.at in
    let whole : sets a.room.now 0 vs ≡ vs ++ drop (0 + length vs) a.room.now = sets-eq vs a.room.now 0 (omega (arith, k, c.requires)) in
    rw z at l.invariant ∙ (rw (zero-add, k) at whole)
