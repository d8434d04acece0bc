-- The answers of the feature question, from what the code has of the track.
-- Assumes nothing.
use Rattle.std.specs.Prelude.{Option, Some, None}
use Prim.Native.Nat.{ℕ}
use mathlib.Core.Path.{◌≡◌, refl, sym, ap, ◌∙◌}
use mathlib.Core.List.{List}
use Rattle.features.specs.Features.{feature_of, peak_for}
use Rattle.structure.specs.declared.source.Source.{Source}
use Rattle.structure.specs.Movie.{moov_of, movie_scale}
use Rattle.track.specs.Track.{track_of}
use Rattle.movie.specs.Rooms.{refused_with}
use Rattle.movie.proofs.Answers.{gives_err, gives_answer}
use Rattle.questions.specs.Asked.{ask_refusal, track_asked}
use Rattle.peaks.specs.declared.Peak.{Peak}
use Rattle.feature_questions.specs.Feature.{to_value, feature_asked, feature_numbers, Computes, to_run, peak_asked, peak_numbers, Locates}
use Rattle.feature_questions.specs.declared.Run.{Run}
use Rattle.std.specs.Prelude.{Result, Ok, Err}
use Rattle.refusals.specs.Refusals.{number}
use Rattle.refusals.specs.declared.Refusal.{Refusal}
use Rattle.refusals.specs.declared.Refusal.TheVariants as refusals

pub to_computed : (f : Option ℕ) (v : ℕ) → f ≡ Some v → Ok v ≡ to_value f
unfolding to_value
to_computed f v e = sym (ap to_value e)

pub to_refused : (f : Option ℕ) → f ≡ None → Err refusals.NotComputed ≡ to_value f
unfolding to_value
to_refused f e = sym (ap to_value e)

pub not_computed : (s : List ℕ) (w : Source) (id code : ℕ) (e : Refusal) → ask_refusal s w id ≡ number e → Computes s w id code (Err e)
unfolding feature_numbers
not_computed s w id code e h = gives_err feature_numbers (refused_with 1) (λ k. refl) (feature_asked s id code) (ask_refusal s w id) e h

pub computed : (s m t : List ℕ) (w : Source) (id code movie : ℕ) (f : Option ℕ) (a : Result ℕ Refusal) → ask_refusal s w id ≡ 0 → m ≡ moov_of s
    → movie ≡ movie_scale m → t ≡ track_asked s id → f ≡ feature_of movie (track_of t) code → a ≡ to_value f → Computes s w id code a
unfolding feature_numbers
computed s m t w id code movie f a z b q d g h =
    gives_answer feature_numbers (refused_with 1) (λ k. refl) (feature_asked s id code) (ask_refusal s w id) a z (h ∙ ap to_value (g ∙ rw (d, q, b)))

-- ---- where the peak is

pub to_located : (p : Option Peak) (b : Peak) → p ≡ Some b → Ok (record { first = b.first; count = b.count }) ≡ to_run p
unfolding to_run
to_located p b e = sym (ap to_run e)

pub to_not_located : (p : Option Peak) → p ≡ None → Err refusals.NotComputed ≡ to_run p
unfolding to_run
to_not_located p e = sym (ap to_run e)

pub not_located : (s : List ℕ) (w : Source) (id code : ℕ) (e : Refusal) → ask_refusal s w id ≡ number e → Locates s w id code (Err e)
unfolding peak_numbers
not_located s w id code e h = gives_err peak_numbers (refused_with 2) (λ k. refl) (peak_asked s id code) (ask_refusal s w id) e h

pub located : (s t : List ℕ) (w : Source) (id code : ℕ) (p : Option Peak) (a : Result Run Refusal) → ask_refusal s w id ≡ 0 → t ≡ track_asked s id
    → p ≡ peak_for (track_of t) code → a ≡ to_run p → Locates s w id code a
unfolding peak_numbers
located s t w id code p a z d g h =
    gives_answer peak_numbers (refused_with 2) (λ k. refl) (peak_asked s id code) (ask_refusal s w id) a z (h ∙ ap to_run (g ∙ rw d))
