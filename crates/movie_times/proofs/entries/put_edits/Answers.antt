-- `movie_times::entries::put_edits` meets its contract; the loop's invariant: the entries of the rest, stored from `at` on, make what all of them make.
-- Assumes nothing.
use borrow.Author.Rules.{rules}
use Prim.Native.Nat.{◌+◌, ◌≤◌}
use mathlib.Core.Path.{refl, ◌∙◌}
use native.Mathlib.Omega.{arith}
use lib.ListN.{length, length-drop}
use Rattle.bigendian.proofs.Parts.{rest}
use Rattle.edits.proofs.Turns.{edits_none}
use Rattle.movie_times.proofs.Stored.{room_here, turn}
use Rattle.movie_times.proofs.entries.put_edits.Goals as goal

pub loop-t-init : goal.loop-t-init
loop-t-init c = (omega (arith, c.requires), refl, refl)

pub put_edit-requires : goal.put_edit-requires
put_edit-requires c = let l = c.loop-t in (room_here l.t.now c.loop-t-test.true l.at _ l.invariant.0).0

pub overflow_add-at : goal.overflow_add-at
overflow_add-at c =
    let l = c.loop-t in
    let h = (room_here l.t.now c.loop-t-test.true l.at _ l.invariant.0).0 in
    let g : l.at + 3 ≤ length c.args.room.now = omega (arith, h, l.invariant.1) in
    search rules

pub loop-t-smaller : goal.loop-t-smaller
loop-t-smaller c =
    let t = c.loop-t.t.now in
    rw (rest 12 t) (omega (arith, length-drop 12 t, c.loop-t-test.true))

pub loop-t-preserved : goal.loop-t-preserved
loop-t-preserved c =
    let l = c.loop-t in
    let t = l.t.now in
    let h = c.loop-t-test.true in
    let q = turn t h l.room _ _ l.at c.put_edit.ensures l.invariant.2 in
    rw (rest 12 t) (omega (arith, q.0, (room_here t h l.at _ l.invariant.0).1), q.0 ∙ l.invariant.1, q.1)

pub shape_of-room : goal.shape_of-room
shape_of-room c = c.loop-t.invariant.1

pub returns : goal.returns
returns c =
    let l = c.loop-t in
    rw (edits_none l.t.now c.loop-t-test.false) at l.invariant.2
