-- `movie::judge` meets its contract: the tables are judged where the crate shape refuses nothing.
-- Assumes nothing.
use mathlib.Core.Path.{sym, ap, ◌∙◌}
use Rattle.refusals.specs.Refusals.{code}
use Rattle.refusals.proofs.Numbers.{ok_code, err_code, ok_one, passed}
use Rattle.movie.proofs.Tables.{refused_first, then_tables, film_fits}
use Rattle.movie.proofs.Traks.{few_traks, scale_is}
use Rattle.movie.proofs.judge.Goals as goal

pub returns-in_err-movie : goal.returns-in_err-movie
returns-in_err-movie c =
    let w = c.in_err-movie in
    let k = err_code _ _ w.was in
    rw (passed _ _ c.from_residual.ensures.1) (record { refusal = sym k.0 ∙ refused_first _ _ _ c.judge.ensures.refusal k.1; movie = λ x q. absurd (cc) })

pub tables_refusal-requires : goal.tables_refusal-requires
tables_refusal-requires c =
    let j = c.judge.ensures in
    let z = ok_code _ _ c.in_ok-movie.was in
    let m = j.movie _ c.in_ok-movie.was in
    let f = film_fits c.args.lent.now c.args.source _ j.refusal z in
    (few_traks _ _ _ m.traks f.1, scale_is _ _ _ _ _ m.heads c.part_of.ensures c.u32_at-scale.ensures, f.0)

pub returns-in_err-tables_refusal : goal.returns-in_err-tables_refusal
returns-in_err-tables_refusal c =
    let r = then_tables _ _ _ _ _ c.judge.ensures.refusal (ok_code _ _ c.in_ok-movie.was) c.length_of.ensures c.tables_refusal.ensures in
    rw (passed _ _ c.from_residual-in_err-tables_refusal.ensures.1) (record { refusal = sym (ap code c.in_err-tables_refusal.was) ∙ r; movie = λ x q. absurd (cc) })

pub returns : goal.returns
returns c =
    let r = then_tables _ _ _ _ _ c.judge.ensures.refusal (ok_code _ _ c.in_ok-movie.was) c.length_of.ensures c.tables_refusal.ensures in
    record { refusal = sym (ap code c.in_ok-tables_refusal.was) ∙ r; movie = λ x q. rw (← ok_one q) (c.judge.ensures.movie _ c.in_ok-movie.was) }
