-- Document 01, "The slip", and document 02, Asks 5 and 9: what a slip is, where bytes go wrong that are none, and what reading one answers.
use Rattle.std.specs.Prelude.{◌≡◌, Bool, cond, ◌&&◌, List, [], ◌∷◌, ◌++◌, ℕ, suc, ◌+◌, ◌*◌, ◌^◌, ltb, eqb, length, get_or, drop, map, Result, Ok, Err}
use Rattle.leb128.specs.Numbers.{value, cut, written, values, cut_short}
use Rattle.slip_head.specs.declared.Head.{Head}
use Rattle.slip_head.specs.Bytes.{any_wide, slip_bytes, Rules}
use Rattle.slip_numbers.specs.Rules.{allowed}
use Rattle.slip.specs.declared.SlipError.{SlipError}
use Rattle.slip.specs.declared.SlipError.TheVariants.{Malformed, NoRoom}

-- ---- where bytes go wrong, number after number

-- how many numbers there are in all, once the number n at index i is read: "number of pairs, pairs", each pair two numbers
unfoldable pub wanted : ℕ → ℕ → ℕ → ℕ
wanted i want n = cond (eqb i 5) (6 + 2 * n) want

pub data Fault : Type 0 where
  none : Fault
  at : ℕ → Fault

-- the first fault of the pieces from a place on, at most k + 1 bytes and the bound being a number's limits: i numbers stand before them, prev is the
-- last of these, and want are wanted in all
unfoldable pub fault_from : ℕ → ℕ → ℕ → ℕ → ℕ → ℕ → List (List ℕ) → Fault
-- "the slip's length if it ends early"
fault_from k bound i prev want place [] = cond (eqb i want) none (at place)
fault_from k bound i prev want place (p ∷ ps) =
    -- "the first surplus byte"
    cond (eqb i want) (at place)
    -- the slip ends within a number: its length
    (cond (cut_short k p) (at (place + length p))
    (cond (written bound p && allowed i prev (value p)) (fault_from k bound (suc i) (value p) (wanted i want (value p)) (place + length p) ps)
    -- "the first byte of the first number that breaks a rule": one that "isn't in its fewest bytes, is 2^32 or more, has the top bit set on its
    -- fifth byte or .. breaks 01's rule for it"; in form 2 "Ask 5's 2^32 and fifth byte become 2^64 and tenth"
    (at place)))

-- form 2 without a number of 2^32 or more "is malformed at place 0, if no other rule is broken"
unfoldable pub wide_fault : List ℕ → Fault → Fault
wide_fault ns none = cond (any_wide ns) none (at 0)
wide_fault ns (at p) = at p

-- the first fault past the form, which took the bytes before the place; any: whether form 2 is read too. Another form is at fault itself
unfoldable pub rest_fault : Bool → ℕ → ℕ → List (List ℕ) → Fault
rest_fault any form place ps =
    cond (eqb form 1) (fault_from 4 (2 ^ 32) 1 1 6 place ps)
    (cond (any && eqb form 2) (wide_fault (values ps) (fault_from 9 (2 ^ 64) 1 2 6 place ps))
    (at 0))

-- "The form itself is always read by form 1's limits"
unfoldable pub slip_fault : Bool → List (List ℕ) → Fault
slip_fault any [] = at 0
slip_fault any (p ∷ ps) = cond (cut_short 4 p) (at (length p)) (cond (written (2 ^ 32) p) (rest_fault any (value p) (length p) ps) (at 0))

-- what bytes are: a slip, by its numbers, or none, by the place where it goes wrong
pub data Outcome : Type 0 where
  accepted : Head → List ℕ → Outcome
  malformed : ℕ → Outcome

abbrev pub head_of : List ℕ → Head
head_of ns = record { id = get_or ns 1 0; scale = get_or ns 2 0; a = get_or ns 3 0; b = get_or ns 4 0; pairs = get_or ns 5 0 }

unfoldable pub outcome_of : Fault → List ℕ → Outcome
outcome_of none ns = accepted (head_of ns) (drop 6 ns)
outcome_of (at p) ns = malformed p

-- "Accepted exactly if each number is so written" and the rules hold: if the pieces have no fault. any: whether form 2 is read too
unfoldable pub slip_in : Bool → List ℕ → Outcome
slip_in any bs = outcome_of (slip_fault any (cut bs)) (values (cut bs))

-- ---- the same as a sentence: bytes are the writing of numbers that keep the rules

-- what the numbers of the slips that are read are below: form 1 has "Numbers below 2^32", "form 2 has numbers below 2^64"
abbrev pub bound_of : Bool → ℕ
bound_of any = cond any (2 ^ 64) (2 ^ 32)

pub record IsSlip (any : Bool) (bs : List ℕ) (h : Head) (pairs : List ℕ) : Type 0 where
  pub bytes : bs ≡ slip_bytes h pairs
  pub rules : Rules (bound_of any) h pairs

-- ---- what reading a slip answers

-- the numbers returned with a refusal: its own, zeros for ID, scale, a, b and the number of pairs, and a place, which is 0 but with 17: "01's line
-- that a refusal gives only zeros, and demand 1's words on it, are amended for 17 alone"
abbrev pub refused : ℕ → ℕ → List ℕ
refused number place = number ∷ 0 ∷ 0 ∷ 0 ∷ 0 ∷ 0 ∷ place ∷ []

-- the answer: a slip's numbers, or a refusal
abbrev pub SlipRead : Type 0
SlipRead = Result Head SlipError

-- the papers' number and values for each case of the answer; the number is 0 where nothing is refused, and then the place is 0 too
unfoldable pub slip_read_numbers : SlipRead → List ℕ
slip_read_numbers (Ok h) = 0 ∷ h.id ∷ h.scale ∷ h.a ∷ h.b ∷ h.pairs ∷ 0 ∷ []
slip_read_numbers (Err (Malformed place)) = refused 17 place
slip_read_numbers (Err NoRoom) = refused 16 0

-- "in slip reading 17, then 16": what is returned of bytes, given so many places of room
unfoldable pub numbers_for : ℕ → Outcome → List ℕ
numbers_for room (accepted h pairs) = cond (ltb room (length pairs)) (refused 16 0) (0 ∷ h.id ∷ h.scale ∷ h.a ∷ h.b ∷ h.pairs ∷ 0 ∷ [])
numbers_for room (malformed place) = refused 17 place

-- "An accepted answer fills the first places and leaves the rest"; with a refusal "lent buffers keep their contents"
unfoldable pub room_for : List ℕ → Outcome → List ℕ
room_for room (accepted h pairs) = cond (ltb (length room) (length pairs)) room (pairs ++ drop (length pairs) room)
room_for room (malformed place) = room

-- the same of room whose places hold a number as that function says
unfoldable pub stored_for : {A : Type 0} → (ℕ → A) → List A → Outcome → List A
stored_for stored room (accepted h pairs) = cond (ltb (length room) (length pairs)) room (map stored pairs ++ drop (length pairs) room)
stored_for stored room (malformed place) = room

-- the promise of reading bytes into a room, where any says whether form 2 is read too: the answer r, and the room after it
pub record Reads (any : Bool) (bs room : List ℕ) (r : SlipRead) (after : List ℕ) : Type 0 where
  pub numbers : slip_read_numbers r ≡ numbers_for (length room) (slip_in any bs)
  pub places : after ≡ room_for room (slip_in any bs)
