-- `shape::judge` meets its contract: the tests that led to a return say which rows do not hold, and the movie is judged where the file's rows give no number.
-- Assumes nothing.
use mathlib.Core.Path.{sym, ap, ◌∙◌}
use Rattle.std.proofs.lemmas.Bool.{not-true, not-false}
use Rattle.structure.specs.Rows.{first, or_else}
use Rattle.shape.specs.Refusals.{wrong_counts, file_rows}
use Rattle.shape.specs.MovieRows.{refusal_of}
use Rattle.shape.proofs.OneMoov.{moov_told}
use Rattle.shape.proofs.Walking.{judged_refused}
use Rattle.shape.proofs.judge.Goals as goal

pub is_too_long-requires : goal.is_too_long-requires
is_too_long-requires c = tt

pub returns-then-is_too_long : goal.returns-then-is_too_long
unfolding refusal_of or_else file_rows first
returns-then-is_too_long c = judged_refused _ _ _ (simp (← c.is_too_long.ensures, c.if-is_too_long.true))

pub check_tree-tree-requires : goal.check_tree-tree-requires
check_tree-tree-requires c = tt

pub has_wrong_atoms-requires : goal.has_wrong_atoms-requires
has_wrong_atoms-requires c = ap (λ x. x.filled) c.check_tree-tree.ensures

pub returns-then-has_wrong_atoms : goal.returns-then-has_wrong_atoms
unfolding refusal_of or_else file_rows first
returns-then-has_wrong_atoms c = judged_refused _ _ _ (simp (← c.is_too_long.ensures, c.if-is_too_long.false, ← c.has_wrong_atoms.ensures, c.if-has_wrong_atoms.true))

pub returns-then-not-tree : goal.returns-then-not-tree
unfolding refusal_of or_else file_rows first wrong_counts
returns-then-not-tree c =
    judged_refused _ _ _
    (simp (← c.is_too_long.ensures, c.if-is_too_long.false, ← c.has_wrong_atoms.ensures, c.if-has_wrong_atoms.false, sym (ap (λ x. x.present) c.check_tree-tree.ensures) ∙ not-true _ c.if-not-tree.true))

pub moov_part-requires : goal.moov_part-requires
moov_part-requires c = tt

pub judge_movie-requires : goal.judge_movie-requires
judge_movie-requires c =
    let a = c.args in
    moov_told a.source.alone a.lent.now _ _ c.check_tree-tree.ensures (not-false _ c.if-not-tree.false) c.moov_part.ensures

pub returns : goal.returns
unfolding refusal_of or_else file_rows first wrong_counts
returns c =
    let m = c.moov_part.ensures in
    let j = c.judge_movie.ensures in
    record {
      refusal = simp (← c.is_too_long.ensures, c.if-is_too_long.false, ← c.has_wrong_atoms.ensures, c.if-has_wrong_atoms.false, sym (ap (λ x. x.present) c.check_tree-tree.ensures) ∙ not-false _ c.if-not-tree.false, ← m) j.refusal;
      movie = λ x q. rw m at (j.movie x q);
    }
