-- `slip_writing::measure_in` meets its contract: an accepted track's pairs are few.
-- Assumes nothing.
use mathlib.Core.Path.{ap, ◌∙◌}
use Rattle.pair_bytes.specs.Measures.{measured_of}
use Rattle.slip_writing.proofs.Slipping.{may_measure}
use Rattle.spans.proofs.Spanning.{table_fits, between_is}
use Rattle.slip_writing.proofs.measure_in.Goals as goal

pub part_of-stsc-requires : goal.part_of-stsc-requires
part_of-stsc-requires c = tt

pub part_of-stsz-requires : goal.part_of-stsz-requires
part_of-stsz-requires c = tt

pub part_of-offsets-requires : goal.part_of-offsets-requires
part_of-offsets-requires c = tt

pub u32_at-requires : goal.u32_at-requires
u32_at-requires c = tt

pub measure_pairs-requires : goal.measure_pairs-requires
measure_pairs-requires c =
    let m = may_measure _ c.args.s c.requires.1 c.requires.2 _ (between_is _ _ _ _ c.args.s _ (c.part_of-stsc.ensures ∙ c.requires.0.stsc) (c.part_of-stsz.ensures ∙ c.requires.0.stsz) (c.part_of-offsets.ensures ∙ c.requires.0.offsets) c.u32_at.ensures) in
    (table_fits _ _ _ (c.part_of-stsc.ensures ∙ c.requires.0.stsc) c.requires.1, m.0, m.1)

pub returns : goal.returns
returns c = c.measure_pairs.ensures ∙ ap measured_of (between_is _ _ _ _ c.args.s _ (c.part_of-stsc.ensures ∙ c.requires.0.stsc) (c.part_of-stsz.ensures ∙ c.requires.0.stsz) (c.part_of-offsets.ensures ∙ c.requires.0.offsets) c.u32_at.ensures)
