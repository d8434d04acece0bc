-- The track list as the code keeps it and what it asks of it. These need not be believed: they are between the crate's own functions.
use Rattle.std.specs.Prelude.{ℕ, ◌<◌, List, [], ◌∷◌}
use Rattle.track.specs.Refusals.{total_in}
use Rattle.track_list.specs.declared.Line.{Line}

-- the eight numbers of a track, of the struct that the code keeps them in
abbrev pub fields : Line → List ℕ
fields l = l.id ∷ l.subtype ∷ l.scale ∷ l.total ∷ l.samples ∷ l.chunks ∷ l.edits ∷ l.stored ∷ []

-- what the code asks for before it puts the list: each total fits 32 bits, as it does where refusal 10 is not given
abbrev pub TotalsFit : List (List ℕ) → Type 0
TotalsFit [] = Unit
TotalsFit (t ∷ ts) = (total_in t < 4294967296) × TotalsFit ts
