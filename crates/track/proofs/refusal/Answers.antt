-- `track::refusal` meets its contract: each test is the condition of a row, and the rest is `timed_refusal`.
-- Assumes nothing.
use borrow.Author.Tests.{lt-ltb}
use Rattle.structure.specs.Track.{id_of, scale_of, table_of, samples_of}
use Rattle.structure.specs.ByTracks.{of_track}
use Rattle.atoms.specs.Kinds.{stts}
use Rattle.runs.specs.Runs.{runs_of}
use Rattle.runs.specs.Computed.{counting}
use Rattle.track.specs.Refusals.{total_in}
use Rattle.track.specs.TrackRows.{timed_rows, track_rows}
use Prim.Native.Nat.{ℕ}
use mathlib.Core.Path.{◌≡◌, sym, ap, ◌∙◌}
use mathlib.Core.Bool.{Bool, true, cond}
use Rattle.track.proofs.Agreed.{stts_miscounts}
use Rattle.runs.proofs.Sums.{total_told, total_untold}
use Rattle.track.proofs.Clauses.{counts_by}
use Rattle.track.proofs.Rows.{rows_7, rows_8, rows_9, rows_timed, timed_over, total_by}
use Rattle.track.proofs.refusal.Goals as goal

pub id_in-requires : goal.id_in-requires
id_in-requires c = c.requires.0

pub returns-then-id_in-eq0 : goal.returns-then-id_in-eq0
returns-then-id_in-eq0 c = sym (rows_7 _ _ _ _ (sym c.id_in.ensures ∙ c.if-id_in-eq0.true))

pub scale_in-requires : goal.scale_in-requires
scale_in-requires c = c.requires.0

pub returns-then-scale_in-eq0 : goal.returns-then-scale_in-eq0
returns-then-scale_in-eq0 c =
    let named : id_of c.args.trak.now ≡ 0 → ⊥ = λ e. c.if-id_in-eq0.false (c.id_in.ensures ∙ e) in
    sym (rows_8 _ _ _ _ (named) (sym c.scale_in.ensures ∙ c.if-scale_in-eq0.true))

pub part_of-requires : goal.part_of-requires
part_of-requires c = tt

pub u32_at-samples-requires : goal.u32_at-samples-requires
u32_at-samples-requires c = tt

pub part_of-requires-2 : goal.part_of-requires-2
part_of-requires-2 c = tt

pub returns-in_default : goal.returns-in_default
returns-in_default c =
    let h = c.requires.0 in
    let scaled : scale_of c.args.trak.now ≡ 0 → ⊥ = λ e. c.if-scale_in-eq0.false (c.scale_in.ensures ∙ e) in
    let named : id_of c.args.trak.now ≡ 0 → ⊥ = λ e. c.if-id_in-eq0.false (c.id_in.ensures ∙ e) in
    let counted = counts_by _ _ _ _ _ (c.part_of.ensures ∙ h.stsz) c.u32_at-samples.ensures (c.part_of-2.ensures ∙ h.stts) (sym (total_untold _ _ (sym c.in_default.is ∙ c.count_and_total.ensures))) in
    sym (rows_9 _ _ _ _ (named) (scaled) (stts_miscounts _ (sym counted)))

pub is_contradictory-requires : goal.is_contradictory-requires
is_contradictory-requires c =
    let h = c.requires.0 in
    let told = total_told _ (sym c.in-Some.is ∙ c.count_and_total.ensures) in
    (h, sym (counts_by _ _ _ _ _ (c.part_of.ensures ∙ h.stsz) c.u32_at-samples.ensures (c.part_of-2.ensures ∙ h.stts) (sym told.0)))

pub returns-then-is_contradictory : goal.returns-then-is_contradictory
returns-then-is_contradictory c =
    let scaled : scale_of c.args.trak.now ≡ 0 → ⊥ = λ e. c.if-scale_in-eq0.false (c.scale_in.ensures ∙ e) in
    let named : id_of c.args.trak.now ≡ 0 → ⊥ = λ e. c.if-id_in-eq0.false (c.id_in.ensures ∙ e) in
    sym (rows_9 _ _ _ _ (named) (scaled) (sym c.is_contradictory.ensures ∙ c.if-is_contradictory.true))

pub returns-then-total-gt4294967295 : goal.returns-then-total-gt4294967295
returns-then-total-gt4294967295 c =
    let scaled : scale_of c.args.trak.now ≡ 0 → ⊥ = λ e. c.if-scale_in-eq0.false (c.scale_in.ensures ∙ e) in
    let named : id_of c.args.trak.now ≡ 0 → ⊥ = λ e. c.if-id_in-eq0.false (c.id_in.ensures ∙ e) in
    let total : c.in-Some.total ≡ total_in c.args.trak.now = (total_told _ (sym c.in-Some.is ∙ c.count_and_total.ensures)).1 ∙ total_by _ _ (c.part_of-2.ensures ∙ c.requires.0.stts) in
    let rest : let a = c.args in
    of_track (track_rows a.source a.movie a.len) a.trak.now ≡ of_track (timed_rows a.source a.movie a.len) a.trak.now = rows_timed _ _ _ _ (named) (scaled) (sym c.is_contradictory.ensures ∙ c.if-is_contradictory.false) in
    sym (rest ∙ timed_over _ _ _ _ (rw (← total) (lt-ltb _ _ c.if-total-gt4294967295.true)))

pub timed_refusal-requires : goal.timed_refusal-requires
timed_refusal-requires c =
    let total : c.in-Some.total ≡ total_in c.args.trak.now = (total_told _ (sym c.in-Some.is ∙ c.count_and_total.ensures)).1 ∙ total_by _ _ (c.part_of-2.ensures ∙ c.requires.0.stts) in
    (c.requires.0, (total, c.requires.1))

pub returns : goal.returns
returns c =
    let scaled : scale_of c.args.trak.now ≡ 0 → ⊥ = λ e. c.if-scale_in-eq0.false (c.scale_in.ensures ∙ e) in
    let named : id_of c.args.trak.now ≡ 0 → ⊥ = λ e. c.if-id_in-eq0.false (c.id_in.ensures ∙ e) in
    let rest : let a = c.args in
    of_track (track_rows a.source a.movie a.len) a.trak.now ≡ of_track (timed_rows a.source a.movie a.len) a.trak.now = rows_timed _ _ _ _ (named) (scaled) (sym c.is_contradictory.ensures ∙ c.if-is_contradictory.false) in
    c.timed_refusal.ensures ∙ sym (rest)
