-- "Slip writing takes a stretch question": the slip of ID, scale, a, b and the stretch's pairs, into lent bytes.
use Rattle.std.specs.Prelude.{ℕ, List, [], ◌∷◌, length, Result, Ok, Err}
use Rattle.pairs.specs.Pairs.{flat}
use Rattle.edits.specs.declared.MediaTime.{MediaTime}
use Rattle.slip_head.specs.Bytes.{slip_bytes}
use Rattle.slip_head.specs.declared.Head.{Head}
use Rattle.structure.specs.declared.source.Source.{Source}
use Rattle.structure.specs.Source.{strictly}
use Rattle.structure.specs.Track.{scale_of}
use Rattle.structure.specs.Rows.{or_else}
use Rattle.movie.specs.Rooms.{no_room, refused_with}
use Rattle.movie.specs.Answers.{given, Puts}
use Rattle.questions.specs.Asked.{track_asked}
use Rattle.stretch.specs.Stretches.{stretch_pairs, span_refusal}
use Rattle.refusals.specs.Refusals.{number, refused}
use Rattle.refusals.specs.declared.Refusal.{Refusal}

-- the slip's numbers before its pairs; "scale" is the media time scale
unfoldable pub slip_head : List ℕ → ℕ → MediaTime → MediaTime → Head
slip_head s id a b = record { id = id; scale = scale_of (track_asked s id); a = a.0; b = b.0; pairs = length (stretch_pairs s id a b) }

-- its bytes
unfoldable pub slip_of_stretch : List ℕ → ℕ → MediaTime → MediaTime → List ℕ
slip_of_stretch s id a b = slip_bytes (slip_head s id a b) (flat (stretch_pairs s id a b))

-- the refusal of the question: those of the stretch, then 16 where the bytes lent are fewer than the slip's. "The slip writer .. asks the strict
-- way", however the film is read
unfoldable pub slip_refusal : List ℕ → Source → ℕ → MediaTime → MediaTime → List ℕ → ℕ
slip_refusal s w id a b out = or_else (span_refusal s (strictly w) id a b) (no_room (slip_of_stretch s id a b) out)

-- what is answered where nothing is refused: "the slip's length in bytes, is returned"
abbrev pub slip_asked : List ℕ → ℕ → MediaTime → MediaTime → Result ℕ Refusal
slip_asked s id a b = Ok (length (slip_of_stretch s id a b))

abbrev pub slip_answer : List ℕ → Source → ℕ → MediaTime → MediaTime → List ℕ → Result ℕ Refusal
slip_answer s w id a b out = given (slip_refusal s w id a b out) (slip_asked s id a b) refused

-- document 01's number and value for each case of the answer
unfoldable pub slip_numbers : Result ℕ Refusal → List ℕ
slip_numbers (Ok n) = 0 ∷ n ∷ []
slip_numbers (Err e) = refused_with 1 (number e)

-- the promise of the question: the answer r, and the bytes lent after it
abbrev pub Slips : List ℕ → Source → ℕ → MediaTime → MediaTime → List ℕ → Result ℕ Refusal → List ℕ → Type 0
Slips s w id a b out r after =
    Puts slip_numbers (refused_with 1) refused (slip_refusal s w id a b out) (slip_asked s id a b) r (slip_of_stretch s id a b) out after
