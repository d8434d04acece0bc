-- `movie_times::header::movie_header` meets its contract: each way out is one of the answers of the question.
-- Assumes nothing.
use mathlib.Core.Path.{refl, ap, ◌∙◌}
use mathlib.Core.List.{List}
use Prim.Native.Nat.{ℕ}
use Rattle.bigendian.specs.BigEndian.{u32_at}
use Rattle.refusals.proofs.Numbers.{passed}
use Rattle.movie.proofs.Refused.{code_err, code_ok}
use Rattle.movie.proofs.Traks.{scale_is}
use Rattle.movie_times.specs.Header.{movie_duration}
use Rattle.movie_times.proofs.Headers.{refused_movie, told_movie}
use Rattle.movie_times.proofs.header.movie_header.Goals as goal

pub returns-in_err-film : goal.returns-in_err-film
returns-in_err-film c = rw (passed c.from_residual.result _ c.from_residual.ensures.1) (refused_movie _ _ _ (code_err _ _ _ c.judge.ensures.refusal c.in_err-film.was))

pub returns : goal.returns
unfolding movie_duration
returns c =
    let m = (c.judge.ensures.movie _ c.in_ok-film.was).heads in
    told_movie _ _ _ _ _ (code_ok _ _ _ c.judge.ensures.refusal c.in_ok-film.was) refl (scale_is _ _ _ _ _ m c.part_of-mvhd.ensures c.u32_at.ensures)
    (c.u32_at-2.ensures ∙ ap (λ (l : List ℕ). u32_at l 24) (c.part_of-mvhd.ensures ∙ m.mvhd))
