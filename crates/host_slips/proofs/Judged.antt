-- The numbers of a slip that is read: its own refusal is the one before the room is looked at, then 16.
-- Assumes nothing.
use Prim.Native.Nat.{ℕ}
use mathlib.Core.Path.{◌≡◌, refl}
use mathlib.Core.List.{List, [], ◌∷◌}
use mathlib.Core.Bool.{Bool, true, false, cond}
use lib.Dec.{eqb, ltb}
use lib.ListN.{length}
use Rattle.slip.specs.Slip.{Outcome, accepted, malformed, refused, numbers_for, room_for}
use Rattle.slip_head.specs.declared.Head.{Head}
use Rattle.structure.specs.Rows.{or_else}
use Rattle.movie.specs.Rooms.{no_room, filled_room, room_after}
use Rattle.hand.specs.Places.{refusal_in, values_in}
use Rattle.host_slips.specs.Numbers.{pairs_of, outcome_refusal}

abbrev pub read_refusal : Outcome → List ℕ → ℕ
read_refusal o room = or_else (outcome_refusal o) (no_room (pairs_of o) room)

-- its refusal is the first of its numbers, and six follow
first_by : (short : Bool) (h : Head) → refusal_in (cond short (refused 16 0) (0 ∷ h.id ∷ h.scale ∷ h.a ∷ h.b ∷ h.pairs ∷ 0 ∷ [])) ≡ cond short 16 0
first_by true h = refl
first_by false h = refl

pub read_first : (o : Outcome) (room : List ℕ) → refusal_in (numbers_for (length room) o) ≡ read_refusal o room
unfolding numbers_for outcome_refusal pairs_of no_room or_else
read_first (accepted h pairs) room = first_by (ltb (length room) (length pairs)) h
read_first (malformed p) room = refl

six_by : (short : Bool) (h : Head) → length (values_in (cond short (refused 16 0) (0 ∷ h.id ∷ h.scale ∷ h.a ∷ h.b ∷ h.pairs ∷ 0 ∷ []))) ≡ 6
six_by true h = refl
six_by false h = refl

pub read_six : (o : Outcome) (k : ℕ) → length (values_in (numbers_for k o)) ≡ 6
unfolding numbers_for
read_six (accepted h pairs) k = six_by (ltb k (length pairs)) h
read_six (malformed p) k = refl

room_by : (short : Bool) (room new : List ℕ) → cond short room new ≡ cond (eqb (cond short 16 0) 0) new room
room_by true room new = refl
room_by false room new = refl

pub read_room : (o : Outcome) (room : List ℕ) → room_for room o ≡ room_after (read_refusal o room) (pairs_of o) room
unfolding room_for outcome_refusal pairs_of no_room or_else room_after filled_room
read_room (accepted h pairs) room = room_by (ltb (length room) (length pairs)) room _
read_room (malformed p) room = refl

-- a slip is malformed exactly if 17 is the first of its numbers
fault_by : (short : Bool) (h : Head) → ◌≡◌ {A = ℕ} 0 (cond (eqb (refusal_in (cond short (refused 16 0) (0 ∷ h.id ∷ h.scale ∷ h.a ∷ h.b ∷ h.pairs ∷ 0 ∷ []))) 17) 17 0)
fault_by true h = refl
fault_by false h = refl

pub fault_first : (o : Outcome) (k : ℕ) → outcome_refusal o ≡ cond (eqb (refusal_in (numbers_for k o)) 17) 17 0
unfolding outcome_refusal numbers_for
fault_first (accepted h pairs) k = fault_by (ltb k (length pairs)) h
fault_first (malformed p) k = refl
