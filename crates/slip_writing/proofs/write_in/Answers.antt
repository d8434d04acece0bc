-- `slip_writing::write_in` meets its contract.
-- Assumes nothing.
use mathlib.Core.Path.{◌∙◌}
use Rattle.pair_bytes.proofs.Streaming.{same_fit, same_wrote}
use Rattle.slip_writing.proofs.Slipping.{may_measure}
use Rattle.spans.proofs.Spanning.{table_fits, between_is}
use Rattle.slip_writing.proofs.write_in.Goals as goal

pub part_of-stsc-requires : goal.part_of-stsc-requires
part_of-stsc-requires c = tt

pub part_of-stsz-requires : goal.part_of-stsz-requires
part_of-stsz-requires c = tt

pub part_of-offsets-requires : goal.part_of-offsets-requires
part_of-offsets-requires c = tt

pub u32_at-requires : goal.u32_at-requires
u32_at-requires c = tt

pub write_pairs-requires : goal.write_pairs-requires
write_pairs-requires c =
    let e = between_is _ _ _ _ c.args.s _ (c.part_of-stsc.ensures ∙ c.requires.0.stsc) (c.part_of-stsz.ensures ∙ c.requires.0.stsz) (c.part_of-offsets.ensures ∙ c.requires.0.offsets) c.u32_at.ensures in
    (table_fits _ _ _ (c.part_of-stsc.ensures ∙ c.requires.0.stsc) c.requires.1, (may_measure _ c.args.s c.requires.1 c.requires.2 _ e).0, same_fit _ e c.requires.3)

pub returns : goal.returns
returns c =
    let e = between_is _ _ _ _ c.args.s _ (c.part_of-stsc.ensures ∙ c.requires.0.stsc) (c.part_of-stsz.ensures ∙ c.requires.0.stsz) (c.part_of-offsets.ensures ∙ c.requires.0.offsets) c.u32_at.ensures in
    same_wrote e c.write_pairs.ensures
