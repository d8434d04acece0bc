-- `track_list::track_list` meets its contract: each way out is one of the answers of the question.
-- Assumes nothing.
use native.Mathlib.Omega.{arith}
use mathlib.Core.Path.{refl, sym, ◌∙◌}
use Rattle.refusals.proofs.Numbers.{ok_code, err_code, passed}
use Rattle.track_list.proofs.Answers.{listed_few, fitting, refused_list, short_list, whole_list}
use Rattle.track_list.proofs.track_list.Goals as goal

pub returns-in_err-movie : goal.returns-in_err-movie
returns-in_err-movie c =
    let h = sym (err_code _ _ c.in_err-movie.was).0 ∙ c.judge.ensures.refusal in
    rw (passed _ _ c.from_residual.ensures.1) (refused_list _ _ _ _ h)

pub overflow_mul-n : goal.overflow_mul-n
overflow_mul-n c =
    let f = listed_few _ _ _ c.judge.ensures.refusal (ok_code _ _ c.in_ok-movie.was) _ (c.judge.ensures.movie _ c.in_ok-movie.was).traks in
    record { fits = omega (arith, f.count, f.few) }

pub returns-then-room-n : goal.returns-then-room-n
returns-then-room-n c =
    let f = listed_few _ _ _ c.judge.ensures.refusal (ok_code _ _ c.in_ok-movie.was) _ (c.judge.ensures.movie _ c.in_ok-movie.was).traks in
    short_list _ _ _ _ _ _ c.judge.ensures.refusal (ok_code _ _ c.in_ok-movie.was) refl f.count (omega (arith, c.if-room-n.true))

pub put_lines-requires : goal.put_lines-requires
put_lines-requires c =
    let f = listed_few _ _ _ c.judge.ensures.refusal (ok_code _ _ c.in_ok-movie.was) _ (c.judge.ensures.movie _ c.in_ok-movie.was).traks in
    (f, fitting _ _ _ _ c.judge.ensures.refusal (ok_code _ _ c.in_ok-movie.was) refl, rw (← f.count) c.if-room-n.false)

pub returns : goal.returns
returns c =
    let f = listed_few _ _ _ c.judge.ensures.refusal (ok_code _ _ c.in_ok-movie.was) _ (c.judge.ensures.movie _ c.in_ok-movie.was).traks in
    whole_list _ _ _ _ _ _ c.judge.ensures.refusal (ok_code _ _ c.in_ok-movie.was) refl f.count _ c.if-room-n.false c.put_lines.ensures
