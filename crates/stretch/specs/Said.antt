-- A stretch by the bytes of its tables, whatever these are, as the code has it. This need not be believed: `Stretches` says what the question
-- promises.
use Rattle.std.specs.Prelude.{ℕ, Bool, cond, ◌&&◌, List, length, Result, Ok}
use Rattle.lists.specs.Lists.{sum}
use Rattle.structure.specs.Rows.{or_else}
use Rattle.movie.specs.Rooms.{no_room, refused_with}
use Rattle.movie.specs.Answers.{Puts}
use Rattle.pairs.specs.Pairs.{flat}
use Rattle.pairs.specs.Walks.{pairs_between, lengths_of}
use Rattle.pairs.specs.declared.Pair.{Pair}
use Rattle.pair_checks.specs.Fits.{pairs_fit}
use Rattle.spans.specs.Spans.{span_of, is_span}
use Rattle.spans.specs.declared.Span.{Span}
use Rattle.edits.specs.declared.MediaTime.{MediaTime}
use Rattle.stretch.specs.Stretches.{stretch_numbers}
use Rattle.refusals.specs.Refusals.{refused}
use Rattle.refusals.specs.declared.Refusal.{Refusal}
use Rattle.stretch.specs.declared.StretchTotals.{StretchTotals}

-- whether the stretch lies within what the tables say, and its pairs are numbers of 64 bits, which they are in an accepted track
unfoldable pub is_stretch : List ℕ → List ℕ → List ℕ → List ℕ → ℕ → ℕ → MediaTime → MediaTime → Bool
is_stretch stts stsc stsz offsets samples chunks a b =
    is_span stts samples a.0 b.0 && pairs_fit stsc stsz offsets chunks (span_of stts a.0 b.0).from (span_of stts a.0 b.0).stop

-- what it asks for, before the room is looked at
unfoldable pub asked_said : List ℕ → List ℕ → List ℕ → List ℕ → ℕ → ℕ → MediaTime → MediaTime → Result Span Refusal
asked_said stts stsc stsz offsets samples chunks a b =
    cond (is_stretch stts stsc stsz offsets samples chunks a b) (Ok (span_of stts a.0 b.0)) (refused 15)

-- its refusal before the room is looked at; after it comes 16
unfoldable pub said_refusal : List ℕ → List ℕ → List ℕ → List ℕ → ℕ → ℕ → MediaTime → MediaTime → ℕ
said_refusal stts stsc stsz offsets samples chunks a b = cond (is_stretch stts stsc stsz offsets samples chunks a b) 0 15

-- its pairs
unfoldable pub said_pairs : List ℕ → List ℕ → List ℕ → List ℕ → ℕ → MediaTime → MediaTime → List Pair
said_pairs stts stsc stsz offsets chunks a b =
    pairs_between stsc stsz offsets chunks (span_of stts a.0 b.0).from (span_of stts a.0 b.0).stop

-- what is answered of some pairs where nothing is refused
abbrev pub pairs_answer : List Pair → Result StretchTotals Refusal
pairs_answer qs = Ok (record { pairs = length qs; bytes = sum (lengths_of qs) })

-- the promise where the pairs qs are asked for, or that refusal is given before the room is looked at
abbrev pub PutsPairs : ℕ → List Pair → List ℕ → Result StretchTotals Refusal → List ℕ → Type 0
PutsPairs refusal qs room r after =
    Puts stretch_numbers (refused_with 2) refused (or_else refusal (no_room (flat qs) room)) (pairs_answer qs) r (flat qs) room after

-- the promise of a stretch by its tables
abbrev pub StretchSaid : List ℕ → List ℕ → List ℕ → List ℕ → ℕ → ℕ → MediaTime → MediaTime → List ℕ → Result StretchTotals Refusal → List ℕ
    → Type 0
StretchSaid stts stsc stsz offsets samples chunks a b room r after =
    PutsPairs (said_refusal stts stsc stsz offsets samples chunks a b) (said_pairs stts stsc stsz offsets chunks a b) room r after
