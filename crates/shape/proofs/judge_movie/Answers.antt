-- `shape::judge_movie` meets its contract: the earlier of the movie's own refusal and of its tracks'.
-- Assumes nothing.
use mathlib.Core.Path.{sym, ap, ◌∙◌}
use Rattle.refusals.specs.Refusals.{code}
use Rattle.refusals.proofs.Numbers.{passed, ok_one}
use Rattle.shape.proofs.Walking.{over_16, judged_by}
use Rattle.shape.proofs.judge_movie.Goals as goal

pub movie_heads-heads-requires : goal.movie_heads-heads-requires
movie_heads-heads-requires c = tt

pub walk_traks-walked-requires : goal.walk_traks-walked-requires
walk_traks-walked-requires c = tt

pub part_of-requires : goal.part_of-requires
part_of-requires c = tt

pub part_of-requires-2 : goal.part_of-requires-2
part_of-requires-2 c = tt

pub own_refusal-own-requires : goal.own_refusal-own-requires
own_refusal-own-requires c = rw c.part_of.ensures (c.requires.0, c.requires.1, c.part_of-2.ensures ∙ c.movie_heads-heads.ensures.profile, over_16 _ _ _ c.walk_traks-walked.ensures.traks)

pub earlier_refusal-requires : goal.earlier_refusal-requires
earlier_refusal-requires c = tt

pub returns-in_err-earlier_refusal : goal.returns-in_err-earlier_refusal
returns-in_err-earlier_refusal c =
    let r = judged_by _ _ _ _ _ _ c.part_of.ensures c.own_refusal-own.ensures c.walk_traks-walked.ensures.refusal c.earlier_refusal.ensures in
    rw (passed _ _ c.from_residual.ensures.1) (record { refusal = sym (ap code (c.in_err-earlier_refusal.was)) ∙ r; movie = λ x q. absurd (cc) })

pub returns : goal.returns
returns c =
    let r = judged_by _ _ _ _ _ _ c.part_of.ensures c.own_refusal-own.ensures c.walk_traks-walked.ensures.refusal c.earlier_refusal.ensures in
    record {
      refusal = sym (ap code (c.in_ok-earlier_refusal.was)) ∙ r;
      movie = λ x q. rw (← ok_one q) (record { heads = c.movie_heads-heads.ensures; traks = c.walk_traks-walked.ensures.traks });
    }
