-- The numbers of a stretch: it is given or refused, and its own refusal is the one before the room is looked at, then 16.
-- Assumes nothing.
use Prim.Native.Nat.{ℕ}
use mathlib.Core.Path.{◌≡◌, refl}
use mathlib.Core.List.{List, [], ◌∷◌}
use lib.ListN.{length}
use Rattle.structure.specs.declared.source.Source.{Source}
use Rattle.track.specs.Track.{track_of}
use Rattle.movie.specs.Rooms.{refused_with}
use Rattle.movie.proofs.Answers.{gives}
use Rattle.movie.proofs.Numbered.{else_low, room_low}
use Rattle.stretch.proofs.Spanning.{span_low}
use Rattle.questions.specs.Asked.{track_asked}
use Rattle.stretch.specs.Stretches.{stretch_pairs, bytes_in, stretch_refusal, stretch_asked, stretch_numbers}
use Rattle.hand.specs.Times.{media}
use Rattle.hand.proofs.Answered.{judged}
use Rattle.host_stretches.specs.Numbers.{of_stretch}

module _ (s : List ℕ) (w : Source) (id a b : ℕ) (room : List ℕ) where
  pub stretch_judged : of_stretch s w id a b room
      ≡ judged (stretch_refusal s w id (media a) (media b) room) (length (stretch_pairs s id (media a) (media b)) ∷ bytes_in (track_of (track_asked s id)) (media a) (media b) ∷ [])
  unfolding stretch_numbers stretch_refusal
  stretch_judged =
      (gives stretch_numbers (refused_with 2) (λ e. refl) (stretch_asked s id (media a) (media b)) (stretch_refusal s w id (media a) (media b) room) _ (else_low _ _ (span_low s w id (media a) (media b)) (room_low _ room)) refl).numbers
