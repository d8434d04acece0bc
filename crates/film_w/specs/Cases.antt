-- The cases of document 01, "Film W", that are "proved as a single theorem over the list of them", and time 71, the last of entry 1, for
-- document 02's "position, from 1, of the entry". The quotes are document 01's.
use Rattle.std.specs.Prelude.{ℕ, ◌≡◌, true, List, [], ◌∷◌, replicate, pos, Result, Ok}
use Rattle.pairs.specs.Pairs.{flat}
use Rattle.edits.specs.declared.MediaTime.{MediaTime}
use Rattle.structure.specs.declared.source.Source.{Source}
use Rattle.movie.specs.Rooms.{room_after}
use Rattle.time_questions.specs.Times.{at_answer}
use Rattle.questions.specs.Samples.{sample_answer}
use Rattle.questions.specs.declared.samples.Sample.{Sample}
use Rattle.stretch.specs.Stretches.{stretch_pairs, stretch_refusal, stretch_answer}
use Rattle.slip_writing.specs.Slips.{slip_of_stretch, slip_refusal, slip_answer}
use Rattle.refusals.specs.Refusals.{refused}
use Rattle.refusals.specs.declared.Refusal.{Refusal}
use Rattle.time_questions.specs.declared.Numbered.{Numbered}
use Rattle.stretch.specs.declared.StretchTotals.{StretchTotals}

-- a question and its answer
pub data Case : Type 0 where
  -- the sample at media time t
  time : ℕ → Result Numbered Refusal → Case
  -- sample n
  sample : ℕ → Result Sample Refusal → Case
  -- the stretch from a to b, with the room that is lent; the answer, and the room after it
  stretch : ℕ → ℕ → List ℕ → Result StretchTotals Refusal → List ℕ → Case
  -- the slip of the stretch from a to b, with the bytes that are lent; the answer, and those bytes after it
  slip : ℕ → ℕ → List ℕ → Result ℕ Refusal → List ℕ → Case

-- room of so many places, none of which holds what is answered
abbrev pub lent : ℕ → List ℕ
lent n = replicate n 9

-- "time 0: sample 1; 23: 1; 24: 2; 72: 4; 119: 4; 120: refused 15." With each sample the position of its stts entry, which changes after time 71
-- "sample 3: decode 48, chunk 1, offset 1150, size 0. Sample 4: chunk 2, offset 900. Sample 0 and 5: refused 15."
-- "stretch 24 to 73: (1100,50),(900,70), 120 bytes. 0 to 120: (1000,150),(900,70), 220 bytes. 24 to 24: refused 15."
-- "slip of 24 to 73: 01 01 D8 04 18 49 02 CC 08 32 84 07 46."
abbrev pub cases : List Case
cases =
    time 0 (Ok (record { sample = 1; entry = 1 }))
    ∷ time 23 (Ok (record { sample = 1; entry = 1 }))
    ∷ time 24 (Ok (record { sample = 2; entry = 1 }))
    ∷ time 71 (Ok (record { sample = 3; entry = 1 }))
    ∷ time 72 (Ok (record { sample = 4; entry = 2 }))
    ∷ time 119 (Ok (record { sample = 4; entry = 2 }))
    ∷ time 120 (refused 15)
    ∷ sample 3
    (Ok (record { decode = 48; duration = 24; composition = pos 48; sync = true; description = 1; chunk = 1; offset = 1150; size = 0 }))
    ∷ sample 4
    (Ok (record { decode = 72; duration = 48; composition = pos 72; sync = true; description = 1; chunk = 2; offset = 900; size = 70 }))
    ∷ sample 0 (refused 15)
    ∷ sample 5 (refused 15)
    ∷ stretch 24 73 (lent 4) (Ok (record { pairs = 2; bytes = 120 })) (1100 ∷ 50 ∷ 900 ∷ 70 ∷ [])
    ∷ stretch 0 120 (lent 4) (Ok (record { pairs = 2; bytes = 220 })) (1000 ∷ 150 ∷ 900 ∷ 70 ∷ [])
    ∷ stretch 24 24 (lent 4) (refused 15) (lent 4)
    ∷ slip 24 73 (lent 13) (Ok 13)
    (0x01 ∷ 0x01 ∷ 0xd8 ∷ 0x04 ∷ 0x18 ∷ 0x49 ∷ 0x02 ∷ 0xcc ∷ 0x08 ∷ 0x32 ∷ 0x84 ∷ 0x07 ∷ 0x46 ∷ [])
    ∷ []

abbrev pub media : ℕ → MediaTime
media t = record { 0 = t }

-- the question, put to the film of the bytes s and the source w, of the track with ID 1, has the answer
abbrev pub CaseHolds : List ℕ → Source → Case → Type 0
CaseHolds s w (time t r) = at_answer s w 1 (media t) ≡ r
CaseHolds s w (sample n r) = sample_answer s w 1 n ≡ r
CaseHolds s w (stretch a b room r after) =
    (stretch_answer s w 1 (media a) (media b) room ≡ r)
    × (room_after (stretch_refusal s w 1 (media a) (media b) room) (flat (stretch_pairs s 1 (media a) (media b))) room ≡ after)
CaseHolds s w (slip a b out r after) =
    (slip_answer s w 1 (media a) (media b) out ≡ r)
    × (room_after (slip_refusal s w 1 (media a) (media b) out) (slip_of_stretch s 1 (media a) (media b)) out ≡ after)

-- each of some cases does
abbrev pub AllHold : List ℕ → Source → List Case → Type 0
AllHold s w [] = Unit {0}
AllHold s w (c ∷ cs) = CaseHolds s w c × AllHold s w cs
