-- The answer is yes exactly where the rules are kept, and another names the first record that breaks one.
-- Assumes nothing.
use Prim.Native.Nat.{ℕ, suc}
use mathlib.Core.Path.{◌≡◌, refl, sym, ap, ◌∙◌}
use mathlib.Core.List.{List}
use mathlib.Core.Bool.{cond}
use native.Mathlib.Omega.{arith}
use native.Mathlib.Decide.{ℕ_discrete}
use borrow.Author.Tests.{ne_eqb}
use lib.Dec.{eqb}
use Rattle.structure.specs.declared.source.Source.{Source}
use Rattle.structure.specs.Movie.{moov_of, movie_scale}
use Rattle.track.specs.Track.{track_of}
use Rattle.questions.specs.Asked.{ask_refusal, track_asked}
use Rattle.profile_faults.specs.Faults.{profile_fault}
use Rattle.profile_faults.proofs.Sentences.{true_exactly}
use Rattle.profile_checks.specs.Checks.{to_fault, check_answer}
use Rattle.profile_checks.specs.Sentences.{AnsweredExactly, ChecksExactly}
use Rattle.std.specs.Prelude.{Result, Ok, Err}
use Rattle.refusals.specs.declared.Refusal.{Refusal}
use Rattle.profile_checks.specs.declared.ProfileCheck.{ProfileCheck}
use Rattle.profile_checks.specs.declared.ProfileCheck.TheVariants.{Yes, Fault}

-- the place that an answer names, and 0 for any other
place_in : Result ProfileCheck Refusal → ℕ
place_in (Ok Yes) = 0
place_in (Ok (Fault place)) = place
place_in (Err e) = 0

faults : Result ProfileCheck Refusal → ℕ
faults (Ok Yes) = 0
faults (Ok (Fault place)) = 1
faults (Err e) = 0

place_is : (place : ℕ) → place_in (Ok (to_fault place)) ≡ place
unfolding to_fault place_in
place_is place = elim (ℕ_discrete place 0) [
  | yes q ↦ rw q refl
  | no n ↦ rw (ne_eqb place 0 n) refl
]

module _ (s : List ℕ) (w : Source) (id : ℕ) (z : ask_refusal s w id ≡ 0) where
  abbrev fault : ℕ
  fault = profile_fault (movie_scale (moov_of s)) (track_of (track_asked s id))

  answer_is : check_answer s w id ≡ Ok (to_fault fault)
  answer_is = rw z refl

  answer_place : (a : Result ProfileCheck Refusal) → check_answer s w id ≡ a → fault ≡ place_in a
  answer_place a e = sym (place_is fault) ∙ ap place_in (sym answer_is ∙ e)

  no_fault : fault ≡ 0 → check_answer s w id ≡ Ok Yes
  unfolding to_fault
  no_fault q = answer_is ∙ rw q refl

  answered : AnsweredExactly s w id
  unfolding place_in faults
  answered =
      let e = true_exactly (movie_scale (moov_of s)) (track_of (track_asked s id)) in
      record {
        accepted = λ k. no_fault (e.accepted k);
        keeps = λ y. e.keeps (answer_place (Ok Yes) y);
        first = λ i f. e.first i (answer_place (Ok (Fault (suc i))) f);
        from_1 = λ f.
            let y : ◌≡◌ {A = ℕ} 0 1 = ap faults (sym (no_fault (answer_place (Ok (Fault 0)) f)) ∙ f) in
            omega arith;
        computed = λ code. rw z refl;
      }

pub answered_exactly : (s : List ℕ) (w : Source) (id : ℕ) → ChecksExactly s w id
answered_exactly = answered
