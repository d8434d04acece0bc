-- `questions::Asked::of` meets its contract: the IDs are looked at where the film is not refused.
-- Assumes nothing.
use Prim.Native.Nat.{◌<◌}
use mathlib.Core.Path.{sym, ◌∙◌}
use native.Mathlib.Omega.{arith}
use lib.ListN.{length}
use Rattle.refusals.specs.declared.Refusal.TheVariants.{NoTrack}
use Rattle.refusals.proofs.Numbers.{ok_code, err_code, passed}
use Rattle.structure.specs.Movie.{moov_of, tracks_of}
use Rattle.movie.proofs.Traks.{scale_is, trak_is}
use Rattle.questions.proofs.Asking.{ask_film, asks_refused, asked_few, asked_none, asked_found}
use Rattle.questions.proofs.Asked.of.Goals as goal

pub returns-in_err-movie : goal.returns-in_err-movie
returns-in_err-movie c =
    let k = err_code _ _ c.in_err-movie.was in
    rw (passed _ _ c.from_residual.ensures.1) (asks_refused _ _ _ _ (sym k.0 ∙ ask_film _ _ _ _ c.judge.ensures.refusal k.1))

pub place_of-i-requires : goal.place_of-i-requires
place_of-i-requires c = asked_few c.args.lent.now c.args.source c.args.id _ c.judge.ensures.refusal (ok_code _ _ c.in_ok-movie.was) _ (c.judge.ensures.movie _ c.in_ok-movie.was).traks

pub returns-then-i-traks : goal.returns-then-i-traks
returns-then-i-traks c =
    let z = ok_code _ _ c.in_ok-movie.was in
    let f = asked_few c.args.lent.now c.args.source c.args.id _ c.judge.ensures.refusal z _ (c.judge.ensures.movie _ c.in_ok-movie.was).traks in
    asks_refused _ _ _ NoTrack (asked_none _ _ _ _ c.judge.ensures.refusal z _ c.place_of-i.ensures (c.if-i-traks.true ∙ f.count))

pub trak_at-requires : goal.trak_at-requires
trak_at-requires c =
    let f = asked_few c.args.lent.now c.args.source c.args.id _ c.judge.ensures.refusal (ok_code _ _ c.in_ok-movie.was) _ (c.judge.ensures.movie _ c.in_ok-movie.was).traks in
    omega (arith, f.count, f.few, c.place_of-i.ensures.within, c.if-i-traks.false)

pub returns : goal.returns
returns c =
    let z = ok_code _ _ c.in_ok-movie.was in
    let m = c.judge.ensures.movie _ c.in_ok-movie.was in
    let f = asked_few c.args.lent.now c.args.source c.args.id _ c.judge.ensures.refusal z _ m.traks in
    let i = c.place_of-i.result in
    let h : i < length (tracks_of (moov_of c.args.lent.now)) = omega (arith, f.count, c.place_of-i.ensures.within, c.if-i-traks.false) in
    asked_found _ _ _ _ c.judge.ensures.refusal z i c.place_of-i.ensures h _ (scale_is _ _ _ _ _ m.heads c.part_of.ensures c.u32_at.ensures) _
    (trak_is _ _ _ f i (omega (arith, f.count)) _ c.trak_at.ensures)
