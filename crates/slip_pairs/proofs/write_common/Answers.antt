-- `slip_pairs::write_common` meets its contract: the loop keeps what `Writing` says, a pair with the next offset a turn.
-- Assumes nothing.
use mathlib.Core.List.{[], ◌∷◌}
use native.Mathlib.Omega.{arith}
use lib.ListN.{length-drop}
use Rattle.bigendian.proofs.Parts.{rest as part-rest}
use Rattle.slip_pairs.proofs.Common.{common_next, common_end}
use Rattle.pair_bytes.proofs.Streaming.{writing_start, writing_end, write_next, writing_turn}
use Rattle.slip_pairs.proofs.write_common.Goals as goal

pub loop-t-init : goal.loop-t-init
loop-t-init c = writing_start _ _ _

pub write_pair-k-requires : goal.write_pair-k-requires
write_pair-k-requires c =
    let l = c.loop-t in
    write_next l.invariant (_ ∷ []) _ (common_next c.args.bytes l.t.now c.loop-t-test.true _ c.whole32-offset.ensures) c.requires

pub loop-t-smaller : goal.loop-t-smaller
loop-t-smaller c =
    let t = c.loop-t.t.now in
    rw (part-rest 4 t) (omega (arith, length-drop 4 t, c.loop-t-test.true))

pub loop-t-preserved : goal.loop-t-preserved
loop-t-preserved c =
    let l = c.loop-t in
    rw (part-rest 4 l.t.now)
    (writing_turn l.invariant (_ ∷ []) _ (common_next c.args.bytes l.t.now c.loop-t-test.true _ c.whole32-offset.ensures) _ _ c.write_pair-k.ensures)

pub shape_of-out : goal.shape_of-out
shape_of-out c = c.loop-t.invariant.same

pub returns : goal.returns
returns c =
    let l = c.loop-t in
    writing_end l.invariant (common_end c.args.bytes l.t.now c.loop-t-test.false)
