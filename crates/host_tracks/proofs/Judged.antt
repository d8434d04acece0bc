-- The numbers of the track list: it is given or refused, and its own refusal is the film's, then 16.
-- Assumes nothing.
use Prim.Native.Nat.{ℕ}
use mathlib.Core.Path.{◌≡◌, refl}
use mathlib.Core.List.{List, [], ◌∷◌}
use lib.ListN.{length}
use Rattle.structure.specs.declared.source.Source.{Source}
use Rattle.structure.specs.Movie.{moov_of, tracks_of}
use Rattle.movie.specs.Rooms.{refused_with}
use Rattle.movie.proofs.Answers.{gives}
use Rattle.movie.proofs.Numbered.{film_low, else_low, room_low}
use Rattle.track_list.specs.TrackList.{list_refusal, listed, track_list_numbers}
use Rattle.hand.proofs.Answered.{judged}
use Rattle.host_tracks.specs.Numbers.{of_track_list}

pub list_judged : (s : List ℕ) (w : Source) (room : List ℕ) → of_track_list s w room ≡ judged (list_refusal s w room) (length (tracks_of (moov_of s)) ∷ [])
unfolding track_list_numbers list_refusal
list_judged s w room = (gives track_list_numbers (refused_with 1) (λ e. refl) (listed s) (list_refusal s w room) _ (else_low _ _ (film_low s w) (room_low _ room)) refl).numbers
