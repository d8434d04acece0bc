-- `slip_pairs::write_chunks` meets its contract: the pair of one chunk, or the pairs of whole ones.
-- Assumes nothing.
use mathlib.Core.Path.{refl, sym, ◌∙◌}
use native.Mathlib.Omega.{arith}
use Rattle.pairs.proofs.Wholes.{at_once_one, at_once_whole, run_given}
use Rattle.pair_bytes.proofs.Streaming.{once_fits, same_fit, same_wrote}
use Rattle.slip_pairs.proofs.write_chunks.Goals as goal

pub pair_at-q-requires : goal.pair_at-q-requires
pair_at-q-requires c = (c.requires.0, once_fits (at_once_one _ _ _ _ c.args.p c.args.n c.if-n-eq1.true refl) c.requires.2)

pub write_pair-requires : goal.write_pair-requires
write_pair-requires c = same_fit _ (sym (at_once_one _ _ _ _ c.args.p c.args.n c.if-n-eq1.true c.pair_at-q.ensures)) c.requires.3

pub returns-then-n-eq1 : goal.returns-then-n-eq1
returns-then-n-eq1 c = same_wrote (sym (at_once_one _ _ _ _ c.args.p c.args.n c.if-n-eq1.true c.pair_at-q.ensures)) c.write_pair.ensures

pub run_offsets-these-requires : goal.run_offsets-these-requires
run_offsets-these-requires c = (c.requires.1.whole c.if-n-eq1.false).there

pub run_sizes-sizes-requires : goal.run_sizes-sizes-requires
run_sizes-sizes-requires c = omega (arith, c.requires.0, c.ranges.stop.fits)

pub write_run-requires : goal.write_run-requires
write_run-requires c =
    let w = c.requires.1.whole c.if-n-eq1.false in
    let e = run_given _ _ c.args.p c.args.n w.there w.common _ _ _ c.run_offsets-these.ensures c.run_sizes-sizes.ensures c.run_at-r.ensures ∙ sym (at_once_whole _ _ _ _ c.args.p c.args.n c.if-n-eq1.false) in
    same_fit _ e c.requires.3

pub returns : goal.returns
returns c =
    let w = c.requires.1.whole c.if-n-eq1.false in
    let e = run_given _ _ c.args.p c.args.n w.there w.common _ _ _ c.run_offsets-these.ensures c.run_sizes-sizes.ensures c.run_at-r.ensures ∙ sym (at_once_whole _ _ _ _ c.args.p c.args.n c.if-n-eq1.false) in
    same_wrote e c.write_run.ensures
