-- The numbers of compaction: they are given or refused, and the refusal is the film's, then 16.
-- Assumes nothing.
use Prim.Native.Nat.{ℕ}
use mathlib.Core.Path.{◌≡◌, refl}
use mathlib.Core.List.{List, [], ◌∷◌}
use lib.ListN.{length}
use Rattle.structure.specs.declared.source.Source.{Source}
use Rattle.movie.specs.Rooms.{refused_with}
use Rattle.movie.proofs.Answers.{gives}
use Rattle.movie.proofs.Numbered.{film_low, else_low, room_low}
use Rattle.compaction.specs.Compaction.{compact_moov, compact_refusal, compact_asked, compact_numbers}
use Rattle.hand.proofs.Answered.{judged}
use Rattle.host_compaction.specs.Numbers.{of_compaction}

module _ (s : List ℕ) (w : Source) (room : List ℕ) where
  pub compact_judged : of_compaction s w room ≡ judged (compact_refusal s w room) (length (compact_moov s) ∷ [])
  unfolding compact_numbers compact_refusal
  compact_judged = (gives compact_numbers (refused_with 1) (λ e. refl) (compact_asked s) (compact_refusal s w room) _ (else_low _ _ (film_low s w) (room_low _ room)) refl).numbers
