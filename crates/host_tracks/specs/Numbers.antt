-- The numbers of the track list, in document 01's order: the refusal, 0 for none, and the value, 0 with a refusal.
use Rattle.std.specs.Prelude.{ℕ, List}
use Rattle.structure.specs.declared.source.Source.{Source}
use Rattle.track_list.specs.TrackList.{list_answer, track_list_numbers}

-- "the count of tracks"
abbrev pub of_track_list : List ℕ → Source → List ℕ → List ℕ
of_track_list s w room = track_list_numbers (list_answer s w room)
