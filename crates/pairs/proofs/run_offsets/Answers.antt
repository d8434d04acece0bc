-- `pairs::run_offsets` meets its contract: the part that it cuts out has the offsets of the chunks asked for.
-- Assumes nothing.
use mathlib.Core.Path.{sym, ◌∙◌}
use native.Mathlib.Omega.{arith}
use Rattle.words.proofs.Turns.{width_is}
use Rattle.pairs.proofs.Wholes.{offsets_cut, cut_within, cut_fits}
use Rattle.pairs.proofs.run_offsets.Goals as goal

pub overflow_mul-start : goal.overflow_mul-start
overflow_mul-start c =
    let f = c.width_of-width.ensures ∙ sym (width_is _ c.is_long.ensures) in
    record { fits = omega (arith, cut_fits c.args.offsets.now c.args.p.chunk c.args.n c.after-part.ensures f c.requires, c.well_formed) }

pub overflow_mul-end : goal.overflow_mul-end
overflow_mul-end c =
    let f = c.width_of-width.ensures ∙ sym (width_is _ c.is_long.ensures) in
    record { fits = omega (arith, cut_fits c.args.offsets.now c.args.p.chunk c.args.n c.after-part.ensures f c.requires, c.well_formed) }

pub overflow_add-end : goal.overflow_add-end
overflow_add-end c =
    let f = c.width_of-width.ensures ∙ sym (width_is _ c.is_long.ensures) in
    record { fits = omega (arith, cut_fits c.args.offsets.now c.args.p.chunk c.args.n c.after-part.ensures f c.requires, c.well_formed) }

pub slice_bounds-result-end : goal.slice_bounds-result-end
slice_bounds-result-end c =
    let f = c.width_of-width.ensures ∙ sym (width_is _ c.is_long.ensures) in
    cut_within c.args.offsets.now c.args.p.chunk c.args.n c.after-part.ensures f c.requires

pub returns : goal.returns
returns c =
    let f = c.width_of-width.ensures ∙ sym (width_is _ c.is_long.ensures) in
    offsets_cut c.args.offsets.now c.args.p.chunk c.args.n c.after-part.ensures f
