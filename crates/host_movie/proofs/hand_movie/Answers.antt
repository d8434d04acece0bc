-- `host_movie::hand_movie` meets its contract, case by case of the answer.
-- Assumes nothing.
use Rattle.hand.proofs.Answered.{handed, of_case}
use Rattle.movie_times.specs.Header.{movie_numbers}
use Rattle.host_movie.proofs.hand_movie.Goals as goal

pub returns-in-Ok : goal.returns-in-Ok
unfolding movie_numbers
returns-in-Ok c = handed _ _ _ _ _ _ (of_case movie_numbers c.movie_header.ensures.answer c.in-Ok.is) c.hand.ensures

pub returns-in-Err : goal.returns-in-Err
unfolding movie_numbers
returns-in-Err c = handed _ _ _ _ _ _ (of_case movie_numbers c.movie_header.ensures.answer c.in-Err.is) (rw c.from.ensures at c.hand-in-Err.ensures)
