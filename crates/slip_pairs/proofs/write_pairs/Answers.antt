-- `slip_pairs::write_pairs` meets its contract: the loop keeps what `Writing` says, some chunks a turn.
-- Assumes nothing.
use mathlib.Core.Path.{sym, ◌∙◌}
use mathlib.Core.List.{[]}
use Rattle.pairs.proofs.Walking.{some_remain, begins_low, past_less}
use Rattle.pairs.proofs.Counting.{place_fits, step_fits}
use Rattle.pair_bytes.proofs.Streaming.{writing_start, writing_end, write_next, writing_turn, same_ahead}
use Rattle.slip_pairs.proofs.Walking.{walking_start, walking_end, walking_split, walking_fits, walking_turn}
use Rattle.slip_pairs.proofs.write_pairs.Goals as goal

pub start_place-p-requires : goal.start_place-p-requires
start_place-p-requires c = c.requires.0

pub loop-p-init : goal.loop-p-init
loop-p-init c =
    let w = walking_start _ _ _ _ _ _ _ c.start_place-p.ensures c.requires.1 in
    (w.0, same_ahead (sym w.1) (writing_start _ _ _))

pub chunks_at_once-n-requires : goal.chunks_at_once-n-requires
chunks_at_once-n-requires c =
    let l = c.loop-p in
    let e = sym c.is_past.ensures ∙ c.loop-p-test.true in
    (some_remain _ [] [] _ _ _ _ l.invariant.0.place e, (place_fits _ _ _ _ _ l.invariant.0.place e c.requires.0 c.ranges.chunks.fits (λ x. (c.type_inv.stsc x).fits) c.ranges.stop.fits).1)

pub write_chunks-k-requires : goal.write_chunks-k-requires
write_chunks-k-requires c =
    let l = c.loop-p in
    let e = sym c.is_past.ensures ∙ c.loop-p-test.true in
    let w = c.chunks_at_once-n.ensures.0 in
    (begins_low _ [] [] _ _ _ _ l.invariant.0.place e, w, walking_fits _ _ _ _ _ _ _ l.invariant.0 e _ w, write_next l.invariant.1 _ _ (walking_split _ _ _ _ _ _ _ l.invariant.0 e _ w) c.requires.2)

pub place_past-p-requires : goal.place_past-p-requires
place_past-p-requires c =
    let l = c.loop-p in
    let e = sym c.is_past.ensures ∙ c.loop-p-test.true in
    step_fits _ _ _ _ _ l.invariant.0.place e c.requires.0 c.ranges.chunks.fits (λ x. (c.type_inv.stsc x).fits) c.ranges.stop.fits _ _ _ c.chunks_at_once-n.ensures.0

pub loop-p-smaller : goal.loop-p-smaller
loop-p-smaller c =
    let l = c.loop-p in
    let e = sym c.is_past.ensures ∙ c.loop-p-test.true in
    let w = c.chunks_at_once-n.ensures.0 in
    rw c.place_past-p.ensures (past_less _ [] [] _ _ _ _ l.invariant.0.place e _ w.few w.some)

pub loop-p-preserved : goal.loop-p-preserved
loop-p-preserved c =
    let l = c.loop-p in
    let e = sym c.is_past.ensures ∙ c.loop-p-test.true in
    let w = c.chunks_at_once-n.ensures.0 in
    let t = walking_turn _ _ _ _ _ _ _ l.invariant.0 e _ w _ c.place_past-p.ensures in
    (t.0, same_ahead (sym t.1) (writing_turn l.invariant.1 _ _ (walking_split _ _ _ _ _ _ _ l.invariant.0 e _ w) _ _ c.write_chunks-k.ensures))

pub shape_of-out : goal.shape_of-out
shape_of-out c = c.loop-p.invariant.1.same

pub returns : goal.returns
returns c =
    let l = c.loop-p in
    writing_end l.invariant.1 (walking_end _ _ _ _ _ _ _ l.invariant.0 (sym c.is_past.ensures ∙ c.loop-p-test.false))
