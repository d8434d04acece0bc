-- The numbers of an edit list: given or refused, and its own refusal is the one before the room is looked at, then 16.
-- Assumes nothing.
use Prim.Native.Nat.{ℕ}
use mathlib.Core.Path.{◌≡◌, refl}
use mathlib.Core.List.{List, [], ◌∷◌}
use lib.ListN.{length}
use lib.IntN.{ℤ}
use Rattle.structure.specs.declared.source.Source.{Source}
use Rattle.movie.specs.Rooms.{refused_with}
use Rattle.movie.proofs.Answers.{gives}
use Rattle.movie.proofs.Numbered.{else_low, room_low}
use Rattle.questions.proofs.Numbered.{ask_low}
use Rattle.movie_times.specs.Entries.{edits_asked, edits_refusal, edits_count, edits_numbers}
use Rattle.hand.proofs.Answered.{judged}
use Rattle.host_movie.specs.Numbers.{of_edits}

pub edits_judged : (s : List ℕ) (w : Source) (id : ℕ) (room : List ℤ) → of_edits s w id room ≡ judged (edits_refusal s w id room) (length (edits_asked s id) ∷ [])
unfolding edits_numbers edits_refusal
edits_judged s w id room = (gives edits_numbers (refused_with 1) (λ e. refl) (edits_count s id) (edits_refusal s w id room) _ (else_low _ _ (ask_low s w id) (room_low _ room)) refl).numbers
