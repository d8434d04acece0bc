-- `room_pairs::put_chunks` meets its contract: the pair of one chunk, or the pairs of whole ones.
-- Assumes nothing.
use mathlib.Core.Path.{refl, sym}
use native.Mathlib.Omega.{arith}
use Rattle.pairs.proofs.Filling.{same_room, same_put, one_room, one_put}
use Rattle.pairs.proofs.Wholes.{at_once_one, at_once_whole, equal_given}
use Rattle.room_pairs.proofs.put_chunks.Goals as goal

pub pair_at-q-requires : goal.pair_at-q-requires
pair_at-q-requires g c = (c.requires.0, omega (arith, (one_room (same_room (sym (at_once_one _ _ _ _ c.args.p c.args.n c.if-n-eq1.true refl)) c.requires.3)).0, g.met.N.RoomNumber.fits))

pub put_pair-requires : goal.put_pair-requires
put_pair-requires g c = one_room (same_room (sym (at_once_one _ _ _ _ c.args.p c.args.n c.if-n-eq1.true c.pair_at-q.ensures)) c.requires.3)

pub returns-then-n-eq1 : goal.returns-then-n-eq1
returns-then-n-eq1 g c = same_put (sym (at_once_one _ _ _ _ c.args.p c.args.n c.if-n-eq1.true c.pair_at-q.ensures)) (one_put c.put_pair.ensures)

pub run_offsets-these-requires : goal.run_offsets-these-requires
run_offsets-these-requires g c = (c.requires.1.whole c.if-n-eq1.false).there

pub put_run-requires : goal.put_run-requires
put_run-requires g c =
    let w = c.requires.1.whole c.if-n-eq1.false in
    same_room (equal_given _ _ c.args.p c.args.n w.there w.common _ _ (c.requires.2 c.if-n-eq1.false) c.run_offsets-these.ensures c.run_at-r.ensures) (same_room (sym (at_once_whole _ _ _ _ c.args.p c.args.n c.if-n-eq1.false)) c.requires.3)

pub returns : goal.returns
returns g c =
    let w = c.requires.1.whole c.if-n-eq1.false in
    same_put (sym (at_once_whole _ _ _ _ c.args.p c.args.n c.if-n-eq1.false)) (same_put (equal_given _ _ c.args.p c.args.n w.there w.common _ _ (c.requires.2 c.if-n-eq1.false) c.run_offsets-these.ensures c.run_at-r.ensures) c.put_run.ensures)
