-- `track::timed_refusal` meets its contract: each test is the condition of a row.
-- Assumes nothing.
use mathlib.Core.Bool.{not}
use mathlib.Core.List.{List}
use Prim.Native.Nat.{ℕ}
use Rattle.structure.specs.Track.{elst_of}
use Rattle.track.specs.Refusals.{chunk_past_end, wrong_edits}
use mathlib.Core.Path.{◌≡◌, sym, ap, ◌∙◌}
use native.Mathlib.Omega.{arith}
use lib.Dec.{ltb}
use lib.ListN.{length}
use Rattle.atoms.specs.Kinds.{stsc}
use Rattle.structure.proofs.Lengths.{table_short}
use Rattle.edits.specs.Edits.{edit_total}
use Rattle.track.proofs.Rows.{timed_10, timed_11, timed_19, timed_12, timed_13, timed_0, chunk_past_end_by, wrong_by}
use Rattle.track.proofs.timed_refusal.Goals as goal

pub returns-then-is_over : goal.returns-then-is_over
returns-then-is_over c =
    let over : ltb 4294967295 (edit_total (elst_of c.args.trak.now)) ≡ c.is_over.result = sym (c.is_over.ensures ∙ ap (λ (l : List ℕ). ltb 4294967295 (edit_total l)) (c.part_of-elst.ensures ∙ c.requires.0.elst)) in
    sym (timed_10 _ _ _ _ _ c.requires.1.0 c.ranges.total.fits (over ∙ c.if-is_over.true))

pub has_other_duration-requires : goal.has_other_duration-requires
has_other_duration-requires c = (c.requires.0, c.requires.1.0)

pub returns-then-has_other_duration : goal.returns-then-has_other_duration
returns-then-has_other_duration c =
    let over : ltb 4294967295 (edit_total (elst_of c.args.trak.now)) ≡ c.is_over.result = sym (c.is_over.ensures ∙ ap (λ (l : List ℕ). ltb 4294967295 (edit_total l)) (c.part_of-elst.ensures ∙ c.requires.0.elst)) in
    sym (timed_11 _ _ _ _ _ c.requires.1.0 c.ranges.total.fits (over ∙ c.if-is_over.false) (sym c.has_other_duration.ensures ∙ c.if-has_other_duration.true))

pub has_data_elsewhere-requires : goal.has_data_elsewhere-requires
has_data_elsewhere-requires c = c.requires.0

pub returns-then-has_data_elsewhere : goal.returns-then-has_data_elsewhere
returns-then-has_data_elsewhere c =
    let over : ltb 4294967295 (edit_total (elst_of c.args.trak.now)) ≡ c.is_over.result = sym (c.is_over.ensures ∙ ap (λ (l : List ℕ). ltb 4294967295 (edit_total l)) (c.part_of-elst.ensures ∙ c.requires.0.elst)) in
    sym (timed_19 _ _ _ _ _ c.requires.1.0 c.ranges.total.fits (over ∙ c.if-is_over.false) (sym c.has_other_duration.ensures ∙ c.if-has_other_duration.false) (sym c.has_data_elsewhere.ensures ∙ c.if-has_data_elsewhere.true))

pub chunks_end_within-requires : goal.chunks_end_within-requires
chunks_end_within-requires c = omega (arith, ap length (c.part_of.ensures ∙ c.requires.0.stsc), table_short stsc c.args.trak.now, c.requires.1)

pub returns-then-not-chunks_end_within : goal.returns-then-not-chunks_end_within
returns-then-not-chunks_end_within c =
    let ends : chunk_past_end c.args.len c.args.trak.now ≡ not c.chunks_end_within.result = sym (chunk_past_end_by _ _ _ _ _ _ (c.part_of.ensures ∙ c.requires.0.stsc) (c.part_of-stsz.ensures ∙ c.requires.0.stsz) (c.part_of-2.ensures ∙ c.requires.0.offsets) c.chunks_end_within.ensures) in
    let over : ltb 4294967295 (edit_total (elst_of c.args.trak.now)) ≡ c.is_over.result = sym (c.is_over.ensures ∙ ap (λ (l : List ℕ). ltb 4294967295 (edit_total l)) (c.part_of-elst.ensures ∙ c.requires.0.elst)) in
    sym (timed_12 _ _ _ _ _ c.requires.1.0 c.ranges.total.fits (over ∙ c.if-is_over.false) (sym c.has_other_duration.ensures ∙ c.if-has_other_duration.false) (sym c.has_data_elsewhere.ensures ∙ c.if-has_data_elsewhere.false) (ends ∙ ap not c.if-not-chunks_end_within.true))

pub scale_in-requires : goal.scale_in-requires
scale_in-requires c = c.requires.0

pub returns-then-not-edits_ok : goal.returns-then-not-edits_ok
returns-then-not-edits_ok c =
    let shows : wrong_edits c.args.movie c.args.trak.now ≡ not c.edits_ok.result = sym (wrong_by _ _ _ _ _ _ (c.part_of-elst.ensures ∙ c.requires.0.elst) c.scale_in.ensures c.requires.1.0 c.edits_ok.ensures) in
    let ends : chunk_past_end c.args.len c.args.trak.now ≡ not c.chunks_end_within.result = sym (chunk_past_end_by _ _ _ _ _ _ (c.part_of.ensures ∙ c.requires.0.stsc) (c.part_of-stsz.ensures ∙ c.requires.0.stsz) (c.part_of-2.ensures ∙ c.requires.0.offsets) c.chunks_end_within.ensures) in
    let over : ltb 4294967295 (edit_total (elst_of c.args.trak.now)) ≡ c.is_over.result = sym (c.is_over.ensures ∙ ap (λ (l : List ℕ). ltb 4294967295 (edit_total l)) (c.part_of-elst.ensures ∙ c.requires.0.elst)) in
    sym (timed_13 _ _ _ _ _ c.requires.1.0 c.ranges.total.fits (over ∙ c.if-is_over.false) (sym c.has_other_duration.ensures ∙ c.if-has_other_duration.false) (sym c.has_data_elsewhere.ensures ∙ c.if-has_data_elsewhere.false) (ends ∙ ap not c.if-not-chunks_end_within.false) (shows ∙ ap not c.if-not-edits_ok.true))

pub returns : goal.returns
returns c =
    let shows : wrong_edits c.args.movie c.args.trak.now ≡ not c.edits_ok.result = sym (wrong_by _ _ _ _ _ _ (c.part_of-elst.ensures ∙ c.requires.0.elst) c.scale_in.ensures c.requires.1.0 c.edits_ok.ensures) in
    let ends : chunk_past_end c.args.len c.args.trak.now ≡ not c.chunks_end_within.result = sym (chunk_past_end_by _ _ _ _ _ _ (c.part_of.ensures ∙ c.requires.0.stsc) (c.part_of-stsz.ensures ∙ c.requires.0.stsz) (c.part_of-2.ensures ∙ c.requires.0.offsets) c.chunks_end_within.ensures) in
    let over : ltb 4294967295 (edit_total (elst_of c.args.trak.now)) ≡ c.is_over.result = sym (c.is_over.ensures ∙ ap (λ (l : List ℕ). ltb 4294967295 (edit_total l)) (c.part_of-elst.ensures ∙ c.requires.0.elst)) in
    sym (timed_0 _ _ _ _ _ c.requires.1.0 c.ranges.total.fits (over ∙ c.if-is_over.false) (sym c.has_other_duration.ensures ∙ c.if-has_other_duration.false) (sym c.has_data_elsewhere.ensures ∙ c.if-has_data_elsewhere.false) (ends ∙ ap not c.if-not-chunks_end_within.false) (shows ∙ ap not c.if-not-edits_ok.false))
