-- `profiles::put_records` meets its contract; the loop's invariant: the records of the rest, stored from `at` on, make what all of them make.
-- Assumes nothing.
use borrow.Author.Rules.{rules}
use Prim.Native.Nat.{◌+◌, ◌≤◌}
use mathlib.Core.Path.{refl, ap, ◌∙◌}
use mathlib.Core.List.{[], ◌∷◌}
use native.Mathlib.Omega.{arith}
use lib.ListN.{length, length-drop}
use lib.Seq.{length-sets}
use Rattle.bigendian.proofs.Parts.{rest as part-rest}
use Rattle.profiles.specs.Profiles.{record_numbers}
use Rattle.profiles.proofs.Kept.{kept-in, kept_none, kept_here, kept_next, room_here, turn}
use Rattle.profiles.proofs.put_records.Goals.{then-u32_at-ne0, else-u32_at-ne0}
use Rattle.profiles.proofs.put_records.Goals as goal

pub loop-t-init : goal.loop-t-init
loop-t-init c =
    let p = c.args.profile.now in
    rw (c.after-t.ensures, ← kept-in p) (omega (arith, c.requires), refl, refl)

pub put_record-requires : goal.put_record-requires
put_record-requires c =
    let l = c.loop-t in
    (room_here l.t.now _ (kept_here _ _ c.loop-t-test.true c.u32_at.ensures c.if-u32_at-ne0.true) l.at _ l.invariant.0).0

pub overflow_add-at : goal.overflow_add-at
overflow_add-at c =
    let l = c.loop-t in
    let h = (room_here l.t.now _ (kept_here _ _ c.loop-t-test.true c.u32_at.ensures c.if-u32_at-ne0.true) l.at _ l.invariant.0).0 in
    let g : l.at + 3 ≤ length c.args.room.now = omega (arith, h, l.invariant.1) in
    search rules

pub loop-t-smaller : goal.loop-t-smaller
loop-t-smaller c = let l = c.loop-t.t.now in rw (part-rest 16 l) (omega (arith, length-drop 16 l, c.loop-t-test.true))

pub loop-t-preserved : goal.loop-t-preserved
loop-t-preserved c =
    let l = c.loop-t in
    let s = l.t.now in
    let u = c.u32_at.ensures in
    let h = c.loop-t-test.true in
    rw (part-rest 16 s)
    (elim c.if-u32_at-ne0.branch [
      | then-u32_at-ne0 w ↦
          let q = kept_here s _ h u w.if-u32_at-ne0.true in
          let k = ap length w.put_record.ensures ∙ length-sets l.room l.at (record_numbers (s ∷ [])) in
          (rw (w.room-is, w.at-is) (omega (arith, (room_here s _ q l.at _ l.invariant.0).1, k)), rw w.room-is (k ∙ l.invariant.1), rw (w.room-is, w.at-is) (turn s _ q l.room _ _ l.at w.put_record.ensures l.invariant.2))
      | else-u32_at-ne0 w ↦
          let q = kept_next s _ h u w.if-u32_at-ne0.false in
          (rw (w.room-is, w.at-is, ← q) l.invariant.0, rw w.room-is l.invariant.1, rw (w.room-is, w.at-is, ← q) l.invariant.2)
    ])

pub shape_of-room : goal.shape_of-room
shape_of-room c = c.loop-t.invariant.1

pub returns : goal.returns
returns c =
    let l = c.loop-t in
    rw (kept_none l.t.now c.loop-t-test.false) at l.invariant.2
