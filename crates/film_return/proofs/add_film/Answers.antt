-- `film_return::add_film` meets its contract: a film that is refused, and one that is accepted.
-- Assumes nothing.
use mathlib.Core.Path.{refl, sym, ◌∙◌}
use Rattle.refusals.proofs.Numbers.{ok_code}
use Rattle.movie.proofs.Refused.{code_err, not_zero}
use Rattle.track_list.proofs.Answers.{listed_few, fitting}
use Rattle.film_return.proofs.Films.{short, filed_refused, filed_accepted}
use Rattle.film_return.proofs.add_film.Goals as goal

pub returns-in-Err : goal.returns-in-Err
returns-in-Err c =
    let h = code_err _ _ _ c.judge.ensures.refusal c.in-Err.is in
    filed_refused _ _ _ _ (sym h) _ _ c.settle.ensures (λ z. not_zero _ _ refl z) (rw c.from.ensures at c.add_refused.ensures)

pub add_tracks-requires : goal.add_tracks-requires
add_tracks-requires c =
    let j = c.judge.ensures in
    let z = ok_code _ _ c.in-Ok.is in
    (listed_few _ _ _ j.refusal z _ (j.movie _ c.in-Ok.is).traks, fitting _ _ _ _ j.refusal z refl, short _ _ _ j.refusal z)

pub returns-in-Ok : goal.returns-in-Ok
returns-in-Ok c =
    let j = c.judge.ensures in
    filed_accepted _ _ _ _ j.refusal _ _ c.settle-in-Ok.ensures (ok_code _ _ c.in-Ok.is) _
    c.add_accepted.ensures c.add_tracks.ensures
