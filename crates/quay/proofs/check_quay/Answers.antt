-- `quay::check_quay` meets its contract: each way out is one of the answers of the question.
-- Assumes nothing.
use mathlib.Core.Path.{sym, ◌∙◌}
use Rattle.refusals.proofs.Numbers.{passed}
use Rattle.movie.proofs.Refused.{code_err, code_ok}
use Rattle.movie.proofs.Traks.{scale_is}
use Rattle.quay.proofs.Answers.{refused_film, checked_few, all_judgeable, breaks_first, keeps_all, breaks_one}
use Rattle.quay.proofs.check_quay.Goals as goal

pub returns-in_err-movie : goal.returns-in_err-movie
returns-in_err-movie c = rw (passed c.from_residual.result _ c.from_residual.ensures.1) (refused_film _ _ _ (code_err _ _ _ c.judge.ensures.refusal c.in_err-movie.was))

pub has_other_tracks-requires : goal.has_other_tracks-requires
has_other_tracks-requires c =
    let j = c.judge.ensures in
    checked_few _ _ (code_ok _ _ _ j.refusal c.in_ok-movie.was) _ (j.movie _ c.in_ok-movie.was).traks

pub returns-then-has_other_tracks : goal.returns-then-has_other_tracks
returns-then-has_other_tracks c = breaks_first _ _ (code_ok _ _ _ c.judge.ensures.refusal c.in_ok-movie.was) (sym c.has_other_tracks.ensures ∙ c.if-has_other_tracks.true)

pub lowest_rule-broken-requires : goal.lowest_rule-broken-requires
lowest_rule-broken-requires c =
    let j = c.judge.ensures in
    let z = code_ok _ _ _ j.refusal c.in_ok-movie.was in
    let m = j.movie _ c.in_ok-movie.was in
    (checked_few _ _ z _ m.traks, all_judgeable _ _ z _ (scale_is _ _ _ _ _ m.heads c.part_of.ensures c.u32_at-scale.ensures))

pub returns-then-broken-eq0 : goal.returns-then-broken-eq0
returns-then-broken-eq0 c =
    let j = c.judge.ensures in
    keeps_all _ _ (code_ok _ _ _ j.refusal c.in_ok-movie.was) (sym c.has_other_tracks.ensures ∙ c.if-has_other_tracks.false) _
    (scale_is _ _ _ _ _ (j.movie _ c.in_ok-movie.was).heads c.part_of.ensures c.u32_at-scale.ensures) _ c.lowest_rule-broken.ensures c.if-broken-eq0.true

pub returns : goal.returns
returns c =
    let j = c.judge.ensures in
    breaks_one _ _ (code_ok _ _ _ j.refusal c.in_ok-movie.was) (sym c.has_other_tracks.ensures ∙ c.if-has_other_tracks.false) _
    (scale_is _ _ _ _ _ (j.movie _ c.in_ok-movie.was).heads c.part_of.ensures c.u32_at-scale.ensures) _ c.lowest_rule-broken.ensures c.if-broken-eq0.false
