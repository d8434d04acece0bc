-- The numbers of a profile: it is given or refused, and its own refusal is the one before the room is looked at, then 16.
-- Assumes nothing.
use Prim.Native.Nat.{ℕ}
use mathlib.Core.Path.{◌≡◌, refl}
use mathlib.Core.List.{List, [], ◌∷◌}
use lib.ListN.{length}
use Rattle.structure.specs.declared.source.Source.{Source}
use Rattle.movie.specs.Rooms.{refused_with}
use Rattle.movie.proofs.Answers.{gives}
use Rattle.movie.proofs.Numbered.{else_low, room_low}
use Rattle.profiles.proofs.Answers.{id_low}
use Rattle.profiles.specs.Profiles.{kept_of, profile_asked, profile_refusal, profile_count, profile_answer_numbers}
use Rattle.hand.proofs.Answered.{judged}
use Rattle.host_profiles.specs.Numbers.{of_profile}

pub profile_judged : (s : List ℕ) (w : Source) (id : ℕ) (room : List ℕ) → of_profile s w id room ≡ judged (profile_refusal s w id room) (length (kept_of (profile_asked s id)) ∷ [])
unfolding profile_answer_numbers profile_refusal
profile_judged s w id room = (gives profile_answer_numbers (refused_with 1) (λ e. refl) (profile_count s id) (profile_refusal s w id room) _ (else_low _ _ (id_low s w id) (room_low _ room)) refl).numbers
