-- The answers of the question, from what the code has of the refusal and of the record at fault.
-- Assumes nothing.
use Prim.Native.Nat.{ℕ}
use mathlib.Core.Path.{◌≡◌, refl, sym, ap, ◌∙◌}
use mathlib.Core.List.{List}
use Rattle.structure.specs.declared.source.Source.{Source}
use Rattle.structure.specs.Movie.{moov_of, movie_scale}
use Rattle.track.specs.Track.{track_of}
use Rattle.movie.specs.Rooms.{refused_with}
use Rattle.movie.proofs.Answers.{gives_err, gives_answer}
use Rattle.questions.specs.Asked.{ask_refusal, track_asked}
use Rattle.profile_faults.specs.Faults.{profile_fault}
use Rattle.profile_checks.specs.Checks.{to_fault, check_asked, check_numbers, Checks}
use Rattle.std.specs.Prelude.{Ok, Err}
use Rattle.refusals.specs.Refusals.{number}
use Rattle.refusals.specs.declared.Refusal.{Refusal}
use Rattle.profile_checks.specs.declared.ProfileCheck.{ProfileCheck}

pub not_checked : (s : List ℕ) (w : Source) (id : ℕ) (e : Refusal) → ask_refusal s w id ≡ number e → Checks s w id (Err e)
unfolding check_numbers
not_checked s w id e h = gives_err check_numbers (refused_with 1) (λ k. refl) (check_asked s id) (ask_refusal s w id) e h

pub checked : (s m b : List ℕ) (w : Source) (id movie place : ℕ) (a : ProfileCheck) → ask_refusal s w id ≡ 0 → m ≡ moov_of s
    → movie ≡ movie_scale m → b ≡ track_asked s id → place ≡ profile_fault movie (track_of b) → a ≡ to_fault place → Checks s w id (Ok a)
unfolding check_numbers
checked s m b w id movie place a z q g d h v =
    gives_answer check_numbers (refused_with 1) (λ k. refl) (check_asked s id) (ask_refusal s w id) (Ok a) z (ap Ok (v ∙ ap to_fault (h ∙ rw (d, g, q))))
