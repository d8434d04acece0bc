-- The answers of the movie's header, from what the code has of the film's refusal and of its moov.
-- Assumes nothing.
use Prim.Native.Nat.{ℕ}
use mathlib.Core.Path.{◌≡◌, refl, sym, ap, ◌∙◌}
use mathlib.Core.List.{List}
use Rattle.structure.specs.declared.source.Source.{Source}
use Rattle.structure.specs.Movie.{moov_of, movie_scale}
use Rattle.movie.specs.Refusals.{film_refusal}
use Rattle.movie.specs.Rooms.{refused_with}
use Rattle.movie.proofs.Answers.{gives_err, gives_answer}
use Rattle.movie_times.specs.Header.{movie_duration, movie_told, movie_numbers, Movies}
use Rattle.std.specs.Prelude.{Ok, Err}
use Rattle.refusals.specs.Refusals.{number}
use Rattle.refusals.specs.declared.Refusal.{Refusal}
use Rattle.movie_times.specs.declared.header.MovieTimes.{MovieTimes}

pub refused_movie : (s : List ℕ) (w : Source) (e : Refusal) → film_refusal s w ≡ number e → Movies s w (Err e)
unfolding movie_numbers
refused_movie s w e h = gives_err movie_numbers (refused_with 2) (λ k. refl) (movie_told s) (film_refusal s w) e h

pub told_movie : (s m : List ℕ) (w : Source) (scale duration : ℕ) → film_refusal s w ≡ 0 → m ≡ moov_of s → scale ≡ movie_scale m → duration ≡ movie_duration m
    → Movies s w (Ok (record { scale = scale; duration = duration }))
unfolding movie_numbers
told_movie s m w scale duration z d p q =
    gives_answer movie_numbers (refused_with 2) (λ k. refl) (movie_told s) (film_refusal s w) (Ok (record { scale = scale; duration = duration })) z
    (λ i. Ok (record { scale = (p ∙ ap movie_scale d) i; duration = (q ∙ ap movie_duration d) i }))
