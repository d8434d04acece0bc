-- `slip_pairs::measure_each` meets its contract: the loop keeps what `Measuring` says, a pair with the next offset and the next sizes a turn.
-- Assumes nothing.
use mathlib.Core.Path.{refl}
use mathlib.Core.List.{[], ◌∷◌}
use native.Mathlib.Omega.{arith}
use lib.ListN.{length-drop}
use Rattle.bigendian.proofs.Parts.{rest as part-rest}
use Rattle.words.proofs.Turns.{width_above}
use Rattle.pairs.proofs.Wholes.{run_next, run_end}
use Rattle.pair_bytes.proofs.Streaming.{measuring_start, measuring_end, measure_fits, measuring_turn}
use Rattle.slip_pairs.proofs.measure_each.Goals as goal

pub loop-t-init : goal.loop-t-init
loop-t-init c = (c.width_of-width.ensures, measuring_start _)

pub both-m-requires : goal.both-m-requires
both-m-requires c =
    let l = c.loop-t in
    measure_fits l.invariant.1 (_ ∷ []) _ (run_next c.args.r l.t.now l.z.now c.first_pair-q.ensures l.invariant.0 c.loop-t-test.true refl) c.requires _ c.measure_pair.ensures

pub loop-t-smaller : goal.loop-t-smaller
loop-t-smaller c =
    let l = c.loop-t in
    let w = c.width_of-width.result in
    rw (part-rest w l.t.now) (omega (arith, length-drop w l.t.now, c.loop-t-test.true, l.invariant.0, width_above c.args.r.long))

pub loop-t-preserved : goal.loop-t-preserved
loop-t-preserved c =
    let l = c.loop-t in
    (l.invariant.0, rw (part-rest c.width_of-width.result l.t.now) (measuring_turn l.invariant.1 (_ ∷ []) _ (run_next c.args.r l.t.now l.z.now c.first_pair-q.ensures l.invariant.0 c.loop-t-test.true c.after-others.ensures) _ _ c.measure_pair.ensures c.both-m.ensures))

pub returns : goal.returns
returns c = let l = c.loop-t in measuring_end l.invariant.1 (run_end c.args.r l.t.now l.z.now l.invariant.0 c.loop-t-test.false)
