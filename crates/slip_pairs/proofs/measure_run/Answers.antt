-- `slip_pairs::measure_run` meets its contract: pair by pair, or by what the chunks have in common.
-- Assumes nothing.
use native.Mathlib.Omega.{arith}
use Rattle.slip_pairs.proofs.Common.{common_length, common_measured}
use Rattle.slip_pairs.proofs.measure_run.Goals as goal

pub words_len-first-requires : goal.words_len-first-requires
words_len-first-requires c = omega (arith, common_length c.args.r c.args.offsets.now c.args.sizes.now c.if-r.false c.if-r-2.false, c.requires)

pub overflow_mul-result : goal.overflow_mul-result
overflow_mul-result c = omega (arith, rw (← c.number_len-second.ensures) at (common_length c.args.r c.args.offsets.now c.args.sizes.now c.if-r.false c.if-r-2.false), c.requires)

pub overflow_add-result : goal.overflow_add-result
overflow_add-result c =
    omega (arith, rw (← c.number_len-second.ensures) at (common_length c.args.r c.args.offsets.now c.args.sizes.now c.if-r.false c.if-r-2.false), c.words_len-first.ensures, c.requires)

pub returns : goal.returns
returns c =
    let a = c.args in
    common_measured a.r a.offsets.now a.sizes.now c.if-r.false c.if-r-2.false c.if-r-ge4294967296.false (λ i. (c.type_inv.offsets i).fits) _ _ c.words_len-first.ensures c.number_len-second.ensures
