-- `slip_pairs::measure_chunks` meets its contract: the pair of one chunk, or the pairs of whole ones.
-- Assumes nothing.
use mathlib.Core.Path.{refl, sym, ap, ◌∙◌}
use native.Mathlib.Omega.{arith}
use Rattle.pairs.proofs.Wholes.{at_once_one, at_once_whole, run_given}
use Rattle.pair_bytes.specs.Measures.{measured_of}
use Rattle.pair_bytes.proofs.Streaming.{once_fits, same_short}
use Rattle.slip_pairs.proofs.measure_chunks.Goals as goal

pub pair_at-requires : goal.pair_at-requires
pair_at-requires c = (c.requires.0, once_fits (at_once_one _ _ _ _ c.args.p c.args.n c.if-n-eq1.true refl) c.requires.2)

pub returns-then-n-eq1 : goal.returns-then-n-eq1
returns-then-n-eq1 c = c.measure_pair.ensures ∙ ap measured_of (sym (at_once_one _ _ _ _ c.args.p c.args.n c.if-n-eq1.true c.pair_at.ensures))

pub run_offsets-these-requires : goal.run_offsets-these-requires
run_offsets-these-requires c = (c.requires.1.whole c.if-n-eq1.false).there

pub run_sizes-sizes-requires : goal.run_sizes-sizes-requires
run_sizes-sizes-requires c = omega (arith, c.requires.0, c.ranges.stop.fits)

pub measure_run-requires : goal.measure_run-requires
measure_run-requires c =
    let w = c.requires.1.whole c.if-n-eq1.false in
    let e = run_given _ _ c.args.p c.args.n w.there w.common _ _ _ c.run_offsets-these.ensures c.run_sizes-sizes.ensures c.run_at.ensures ∙ sym (at_once_whole _ _ _ _ c.args.p c.args.n c.if-n-eq1.false) in
    same_short e c.requires.3

pub returns : goal.returns
returns c =
    let w = c.requires.1.whole c.if-n-eq1.false in
    let e = run_given _ _ c.args.p c.args.n w.there w.common _ _ _ c.run_offsets-these.ensures c.run_sizes-sizes.ensures c.run_at.ensures ∙ sym (at_once_whole _ _ _ _ c.args.p c.args.n c.if-n-eq1.false) in
    c.measure_run.ensures ∙ ap measured_of e
