-- `chunks::seek` meets its contract: where the sample falls among the chunks ahead of the cursor says where it falls among all. A run has at most 2 ^ 32
-- chunks, and there are few enough in all to count them.
-- Assumes nothing.
use Prim.Native.Nat.{◌<◌, ◌^◌}
use mathlib.Core.Path.{ap}
use native.Mathlib.Omega.{arith}
use native.Mathlib.Nat.{mod-lt}
use lib.ListN.{length}
use Rattle.lists.proofs.Laws.{pos_of_lt_mul}
use Rattle.chunks.specs.Chunks.{per_chunk}
use Rattle.chunks.specs.declared.ChunkCursor.{ChunkCursor}
use Rattle.chunks.proofs.Finding.{seeking_start, seeking_fits, seeking_skip, seeking_in, seeking_past, seeking_less, seeking_end}
use Rattle.chunks.proofs.Turns.{run_fits, few_chunks}
use Rattle.chunks.proofs.seek.Goals as goal

pub loop-c-init : goal.loop-c-init
loop-c-init c = (seeking_start _ _ _ c.start_cursor.ensures c.ready-c.ensures.0, c.ready-c.ensures.1 (omega (arith, ap (λ (x : ChunkCursor). x.remaining) c.start_cursor.ensures)))

pub overflow_mul-samples : goal.overflow_mul-samples
overflow_mul-samples c =
    let per_small : c.loop-c.c.per < 2 ^ 32 = omega arith in
    let m = c.loop-c in omega (arith, run_fits m.invariant.1 (per_small))

pub nonzero_div-skip : goal.nonzero_div-skip
nonzero_div-skip c = pos_of_lt_mul _ _ _ c.if-rest-samples.true

pub overflow_add-result : goal.overflow_add-result
overflow_add-result c =
    let few : length (per_chunk c.args.stsc.now c.args.chunks) < 2 ^ 63 = few_chunks c.args.stsc.now c.args.chunks c.requires (omega (arith, c.ranges.chunks)) (λ i. omega (arith, c.type_inv.stsc i)) in
    omega (arith, seeking_skip c.loop-c.invariant.0 c.if-rest-samples.true, seeking_fits c.loop-c.invariant.0, few)

pub nonzero_rem-result : goal.nonzero_rem-result
nonzero_rem-result c = pos_of_lt_mul _ _ _ c.if-rest-samples.true

pub overflow_cast-result : goal.overflow_cast-result
overflow_cast-result c =
    let per_small : c.loop-c.c.per < 2 ^ 32 = omega arith in
    omega (arith, mod-lt c.loop-c.rest {m = c.loop-c.c.per} (pos_of_lt_mul _ _ _ c.if-rest-samples.true), per_small)

pub returns-then-rest-samples : goal.returns-then-rest-samples
returns-then-rest-samples c =
    let m = c.loop-c in
    seeking_in m.invariant.0 c.if-rest-samples.true c.pass-cursor.ensures

pub overflow_add-passed : goal.overflow_add-passed
overflow_add-passed c =
    let few : length (per_chunk c.args.stsc.now c.args.chunks) < 2 ^ 63 = few_chunks c.args.stsc.now c.args.chunks c.requires (omega (arith, c.ranges.chunks)) (λ i. omega (arith, c.type_inv.stsc i)) in
    omega (arith, seeking_fits c.loop-c.invariant.0, few)

pub loop-c-smaller : goal.loop-c-smaller
loop-c-smaller c = seeking_less c.loop-c.invariant.0 c.pass.ensures c.ready-c-in-loop-c.ensures.0 c.loop-c-test.true

pub loop-c-preserved : goal.loop-c-preserved
loop-c-preserved c = (
  seeking_past c.loop-c.invariant.0 c.pass.ensures c.ready-c-in-loop-c.ensures.0 c.if-rest-samples.false,
  c.ready-c-in-loop-c.ensures.1 (omega (arith, ap (λ (x : ChunkCursor). x.remaining) c.pass.ensures)),
)

pub overflow_cast-result-2 : goal.overflow_cast-result-2
overflow_cast-result-2 c = omega (arith, c.loop-c.invariant.0.low, c.ranges.index)

pub returns : goal.returns
returns c = seeking_end c.loop-c.invariant.0 c.loop-c-test.false
