-- "Stretch, from a to b in media time, 0 ≤ a < b ≤ total: samples from the one at a to the one at b-1, all numbers between included."
use Rattle.std.specs.Prelude.{ℕ, suc, ◌-◌, List, [], ◌∷◌, cond, ◌&&◌, length, ltb, leb, Result, Ok, Err}
use Rattle.lists.specs.Lists.{between, holder}
use Rattle.pairs.specs.Pairs.{touched, flat}
use Rattle.pairs.specs.declared.Pair.{Pair}
use Rattle.edits.specs.declared.MediaTime.{MediaTime}
use Rattle.structure.specs.declared.source.Source.{Source}
use Rattle.structure.specs.Rows.{or_else}
use Rattle.track.specs.Track.{Track, track_of}
use Rattle.track.specs.Refusals.{total_in}
use Rattle.movie.specs.Rooms.{no_room, refused_with}
use Rattle.movie.specs.Answers.{given, Puts}
use Rattle.questions.specs.Asked.{ask_refusal, track_asked}
use Rattle.refusals.specs.Refusals.{number, refused}
use Rattle.refusals.specs.declared.Refusal.{Refusal}
use Rattle.stretch.specs.declared.StretchTotals.{StretchTotals}

-- the samples included, by index: from the one at a, and up to, not including, the one past that at b - 1
unfoldable pub first_in : Track → MediaTime → ℕ
first_in t a = holder t.durations a.0

unfoldable pub past_in : Track → MediaTime → ℕ
past_in t b = suc (holder t.durations (b.0 - 1))

-- "One pair (offset, length) for each chunk touched, in chunk order"
unfoldable pub pairs_in : Track → MediaTime → MediaTime → List Pair
pairs_in t a b = touched (first_in t a) (past_in t b) 0 t.per_chunk t.chunk_offsets t.sizes

-- "the total of bytes": "the sizes of all samples included, added"
unfoldable pub bytes_in : Track → MediaTime → MediaTime → ℕ
bytes_in t a b = between t.sizes (first_in t a) (past_in t b)

-- the same of a track of a film
unfoldable pub stretch_pairs : List ℕ → ℕ → MediaTime → MediaTime → List Pair
stretch_pairs s id a b = pairs_in (track_of (track_asked s id)) a b

-- where a < b ≤ total does not hold, the "stretch lies outside": 15
abbrev pub span_at : List ℕ → Source → ℕ → ℕ → ℕ → ℕ
span_at s w id a b = or_else (ask_refusal s w id) (cond (ltb a b && leb b (total_in (track_asked s id))) 0 15)

unfoldable pub span_refusal : List ℕ → Source → ℕ → MediaTime → MediaTime → ℕ
span_refusal s w id a b = span_at s w id a.0 b.0

-- the refusal of the question: those, then 16
unfoldable pub stretch_refusal : List ℕ → Source → ℕ → MediaTime → MediaTime → List ℕ → ℕ
stretch_refusal s w id a b room = or_else (span_refusal s w id a b) (no_room (flat (stretch_pairs s id a b)) room)

-- what is answered where nothing is refused: "with the number of pairs and the total of bytes"
abbrev pub stretch_asked : List ℕ → ℕ → MediaTime → MediaTime → Result StretchTotals Refusal
stretch_asked s id a b = Ok (record { pairs = length (stretch_pairs s id a b); bytes = bytes_in (track_of (track_asked s id)) a b })

abbrev pub stretch_answer : List ℕ → Source → ℕ → MediaTime → MediaTime → List ℕ → Result StretchTotals Refusal
stretch_answer s w id a b room = given (stretch_refusal s w id a b room) (stretch_asked s id a b) refused

-- document 01's number and values for each case of the answer
unfoldable pub stretch_numbers : Result StretchTotals Refusal → List ℕ
stretch_numbers (Ok x) = 0 ∷ x.pairs ∷ x.bytes ∷ []
stretch_numbers (Err e) = refused_with 2 (number e)

-- the promise of the question: the answer r, and the room after it
abbrev pub Stretches : List ℕ → Source → ℕ → MediaTime → MediaTime → List ℕ → Result StretchTotals Refusal → List ℕ → Type 0
Stretches s w id a b room r after =
    Puts stretch_numbers (refused_with 2) refused (stretch_refusal s w id a b room) (stretch_asked s id a b) r (flat (stretch_pairs s id a b)) room after
