-- `track::is_contradictory` meets its contract: what the tables answer is joined as the clauses are.
-- Assumes nothing.
use Prim.Native.Nat.{ℕ}
use mathlib.Core.Path.{refl, sym, ap, ◌∙◌}
use mathlib.Core.List.{List}
use Rattle.bigendian.specs.BigEndian.{u32_at}
use Rattle.atoms.specs.Kinds.{stts}
use Rattle.runs.specs.Runs.{runs_of}
use Rattle.runs.specs.Computed.{counting}
use Rattle.structure.specs.Track.{table_of}
use Rattle.track.proofs.Clauses.{contradicts_by}
use Rattle.track.proofs.is_contradictory.Goals as goal

pub part_of-requires : goal.part_of-requires
part_of-requires c = tt

pub u32_at-samples-requires : goal.u32_at-samples-requires
u32_at-samples-requires c = tt

pub part_of-requires-2 : goal.part_of-requires-2
part_of-requires-2 c = tt

pub u32_at-chunks-requires : goal.u32_at-chunks-requires
u32_at-chunks-requires c = tt

pub part_of-requires-3 : goal.part_of-requires-3
part_of-requires-3 c = tt

pub u32_at-descriptions-requires : goal.u32_at-descriptions-requires
u32_at-descriptions-requires c = tt

pub part_of-stsc-requires : goal.part_of-stsc-requires
part_of-stsc-requires c = tt

pub part_of-requires-4 : goal.part_of-requires-4
part_of-requires-4 c = tt

pub deals_samples-requires : goal.deals_samples-requires
deals_samples-requires c = tt

pub both-d-requires : goal.both-d-requires
both-d-requires c = tt

pub part_of-requires-5 : goal.part_of-requires-5
part_of-requires-5 c = tt

pub syncs_agree-requires : goal.syncs_agree-requires
syncs_agree-requires c = tt

pub both-requires : goal.both-requires
both-requires c = tt

pub returns : goal.returns
returns c =
    let h = c.requires.0 in
    let n = c.u32_at-samples.ensures ∙ ap (λ (l : List ℕ). u32_at l 16) (c.part_of.ensures ∙ h.stsz) in
    contradicts_by _ _ _ _ _ _ _ _ _ _ _ _ _ _ _ _ _ _
    (c.part_of.ensures ∙ h.stsz) c.u32_at-samples.ensures (c.part_of-2.ensures ∙ h.offsets) c.u32_at-chunks.ensures (c.part_of-3.ensures ∙ h.stsd) c.u32_at-descriptions.ensures
    (c.part_of-stsc.ensures ∙ h.stsc) refl (sym (ap (λ k. counting k (runs_of (table_of stts c.args.trak.now))) n ∙ c.requires.1)) (c.part_of-4.ensures ∙ h.ctts) c.may_count-b.ensures refl
    c.deals_samples.ensures c.both-d.ensures (c.part_of-5.ensures ∙ h.stss) c.syncs_agree.ensures c.both.ensures
