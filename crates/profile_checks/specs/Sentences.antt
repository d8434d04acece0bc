-- What the answer says of the stored profile of the track asked, where neither the film nor the ID is refused (`ChecksExactly`).
use Rattle.std.specs.Prelude.{ℕ, suc, ◌≡◌, List, Ok}
use Rattle.structure.specs.declared.source.Source.{Source}
use Rattle.structure.specs.Movie.{moov_of, movie_scale}
use Rattle.track.specs.Track.{track_of}
use Rattle.features.specs.Features.{feature_of}
use Rattle.questions.specs.Asked.{ask_refusal, track_asked}
use Rattle.feature_questions.specs.Feature.{to_value, feature_answer}
use Rattle.profile_faults.specs.Sentences.{Keeps, FirstAtFault}
use Rattle.profile_checks.specs.Checks.{check_answer}
use Rattle.profile_checks.specs.declared.ProfileCheck.TheVariants.{Yes, Fault}

pub record AnsweredExactly (s : List ℕ) (w : Source) (id : ℕ) : Type 0 where
  -- "The answer is yes, also without a profile" exactly where the rules are kept
  pub accepted : Keeps (movie_scale (moov_of s)) (track_of (track_asked s id)) → check_answer s w id ≡ Ok Yes
  pub keeps : check_answer s w id ≡ Ok Yes → Keeps (movie_scale (moov_of s)) (track_of (track_asked s id))
  -- "or the first record at fault by its place, from 1, in the stored profile"
  pub first : (i : ℕ) → check_answer s w id ≡ Ok (Fault (suc i)) → FirstAtFault (movie_scale (moov_of s)) (track_of (track_asked s id)) i
  pub from_1 : check_answer s w id ≡ Ok (Fault 0) → ⊥
  -- "the computed feature" is the answer of the question for it, "refused 18" where it can't be computed
  pub computed : (code : ℕ) → feature_answer s w id code ≡ to_value (feature_of (movie_scale (moov_of s)) (track_of (track_asked s id)) code)

abbrev pub ChecksExactly : List ℕ → Source → ℕ → Type 0
ChecksExactly s w id = ask_refusal s w id ≡ 0 → AnsweredExactly s w id
