-- The numbers of a slip that is written: it is given or refused, and its own refusal is the one before the room is looked at, then 16.
-- Assumes nothing.
use Prim.Native.Nat.{ℕ}
use mathlib.Core.Path.{◌≡◌, refl}
use mathlib.Core.List.{List, [], ◌∷◌}
use lib.ListN.{length}
use Rattle.structure.specs.declared.source.Source.{Source}
use Rattle.structure.specs.Source.{strictly}
use Rattle.movie.specs.Rooms.{refused_with}
use Rattle.movie.proofs.Answers.{gives}
use Rattle.movie.proofs.Numbered.{else_low, room_low}
use Rattle.stretch.proofs.Spanning.{span_low}
use Rattle.slip_writing.specs.Slips.{slip_of_stretch, slip_refusal, slip_asked, slip_numbers}
use Rattle.hand.specs.Times.{media}
use Rattle.hand.proofs.Answered.{judged}
use Rattle.host_written_slips.specs.Numbers.{of_slip_writing}

module _ (s : List ℕ) (w : Source) (id a b : ℕ) (room : List ℕ) where
  pub slip_judged : of_slip_writing s w id a b room ≡ judged (slip_refusal s w id (media a) (media b) room) (length (slip_of_stretch s id (media a) (media b)) ∷ [])
  unfolding slip_numbers slip_refusal
  slip_judged = (gives slip_numbers (refused_with 1) (λ e. refl) (slip_asked s id (media a) (media b)) (slip_refusal s w id (media a) (media b) room) _ (else_low _ _ (span_low s (strictly w) id (media a) (media b)) (room_low _ room)) refl).numbers
