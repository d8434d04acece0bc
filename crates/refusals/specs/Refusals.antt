-- The refusals by their numbers: the papers' numbers, of which 0 is none, and results that hold a refusal.
use Rattle.std.specs.Prelude.{ℕ, ◌-◌, List, [], ◌∷◌, get_or, Result, Ok, Err}
use Rattle.refusals.specs.declared.Refusal.{Refusal}
use Rattle.refusals.specs.declared.Refusal.TheVariants.{TooLong, BrokenAtom, AtomCount, UnknownVersion, WrongSize, OverLimits, TrackId, ZeroScale, Contradiction, TotalTooLarge, OtherDuration, DataElsewhere, ChunkPastEnd, WrongEdits, NoTrack, Outside, NoRoom, MalformedSlip, NotComputed, TooManyScales, TotalOverflows}

-- the number that the papers give it
abbrev pub number : Refusal → ℕ
number TooLong = 1
number BrokenAtom = 2
number AtomCount = 3
number UnknownVersion = 4
number WrongSize = 5
number OverLimits = 6
number TrackId = 7
number ZeroScale = 8
number Contradiction = 9
number TotalTooLarge = 10
number OtherDuration = 11
number DataElsewhere = 19
number ChunkPastEnd = 12
number WrongEdits = 13
number NoTrack = 14
number Outside = 15
number NoRoom = 16
number MalformedSlip = 17
number NotComputed = 18
number TooManyScales = 20
number TotalOverflows = 21

-- they all, from 1 on as their numbers rise
abbrev pub by_number : List Refusal
by_number =
    TooLong
    ∷ BrokenAtom
    ∷ AtomCount
    ∷ UnknownVersion
    ∷ WrongSize
    ∷ OverLimits
    ∷ TrackId
    ∷ ZeroScale
    ∷ Contradiction
    ∷ TotalTooLarge
    ∷ OtherDuration
    ∷ ChunkPastEnd
    ∷ WrongEdits
    ∷ NoTrack
    ∷ Outside
    ∷ NoRoom
    ∷ MalformedSlip
    ∷ NotComputed
    ∷ DataElsewhere
    ∷ TooManyScales
    ∷ TotalOverflows
    ∷ []

-- the refusal with the number n, which is 1 to 21
abbrev pub refusal_of : ℕ → Refusal
refusal_of n = get_or by_number (n - 1) TooLong

-- the result that is refused by that number
abbrev pub refused : {A : Type 0} → ℕ → Result A Refusal
refused n = Err (refusal_of n)

-- the number of a result's refusal; 0 where it is not refused
abbrev pub code : {A : Type 0} → Result A Refusal → ℕ
code (Ok x) = 0
code (Err e) = number e
