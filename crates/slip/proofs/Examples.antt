-- Document 01's slip and one of form 2, of track 1, scale 600, media times 24 to 73 and two pairs, and slips damaged in one place, by computation.
-- Assumes nothing.
use mathlib.Core.Path.{◌≡◌, refl}
use mathlib.Core.Bool.{Bool, true, false}
use mathlib.Core.List.{List, [], ◌∷◌}
use Prim.Native.Nat.{ℕ}
use Rattle.leb128.specs.Numbers.{groups, groups_in, writes, value, onto, cut, same, written, values, unended, cut_short}
use Rattle.slip_head.specs.Bytes.{any_wide, form_of, slip_bytes}
use Rattle.slip_head.specs.declared.Head.{Head}
use Rattle.slip_numbers.specs.Rules.{allowed}
use Rattle.slip.specs.Slip.{wanted, fault_from, wide_fault, rest_fault, slip_fault, Outcome, accepted, malformed, outcome_of, slip_in}

abbrev worked : Head
worked = record { id = 1; scale = 600; a = 24; b = 73; pairs = 2 }

abbrev bytes : List ℕ
bytes = 0x01 ∷ 0x01 ∷ 0xd8 ∷ 0x04 ∷ 0x18 ∷ 0x49 ∷ 0x02 ∷ 0xcc ∷ 0x08 ∷ 0x32 ∷ 0x84 ∷ 0x07 ∷ 0x46 ∷ []

worked_written : slip_bytes worked (1100 ∷ 50 ∷ 900 ∷ 70 ∷ []) ≡ bytes
unfolding slip_bytes form_of any_wide writes groups groups_in
worked_written = refl

worked_read : slip_in false bytes ≡ accepted worked (1100 ∷ 50 ∷ 900 ∷ 70 ∷ [])
unfolding slip_in outcome_of slip_fault rest_fault fault_from allowed wanted unended cut_short written same cut onto value values groups groups_in
worked_read = refl

unfoldable outcomes : Bool → List (List ℕ) → List Outcome
outcomes any [] = []
outcomes any (s ∷ ss) = slip_in any s ∷ outcomes any ss

-- no bytes; form 2; ID 1 in a byte too many; a = b; no pairs; a pair cut short; a byte too many at the end; an ID of 0 in a slip that also ends early; five bytes
-- with the top bit set at the end, which are broken, and four, which are cut short
damaged : outcomes false (
    []
    ∷ (2 ∷ 1 ∷ 1 ∷ 0 ∷ 1 ∷ 1 ∷ 5 ∷ 6 ∷ [])
    ∷ (1 ∷ 0x81 ∷ 0 ∷ 1 ∷ 0 ∷ 1 ∷ 1 ∷ 5 ∷ 6 ∷ [])
    ∷ (1 ∷ 1 ∷ 1 ∷ 1 ∷ 1 ∷ 1 ∷ 5 ∷ 6 ∷ [])
    ∷ (1 ∷ 1 ∷ 1 ∷ 0 ∷ 1 ∷ 0 ∷ [])
    ∷ (1 ∷ 1 ∷ 1 ∷ 0 ∷ 1 ∷ 1 ∷ 5 ∷ 0x86 ∷ [])
    ∷ (1 ∷ 1 ∷ 1 ∷ 0 ∷ 1 ∷ 1 ∷ 5 ∷ 6 ∷ 7 ∷ [])
    ∷ (1 ∷ 0 ∷ [])
    ∷ (1 ∷ 0xff ∷ 0xff ∷ 0xff ∷ 0xff ∷ 0xff ∷ [])
    ∷ (1 ∷ 0xff ∷ 0xff ∷ 0xff ∷ 0xff ∷ [])
    ∷ [])
    ≡ malformed 0 ∷ malformed 0 ∷ malformed 1 ∷ malformed 4 ∷ malformed 5 ∷ malformed 8 ∷ malformed 8 ∷ malformed 1 ∷ malformed 1 ∷ malformed 5 ∷ []
unfolding outcomes slip_in outcome_of slip_fault rest_fault fault_from allowed wanted unended cut_short written same cut onto value values groups groups_in
damaged = refl

-- ---- form 2

abbrev far : Head
far = record { id = 1; scale = 600; a = 24; b = 73; pairs = 1 }

-- an offset of 2 ^ 32, in five bytes
abbrev far_bytes : List ℕ
far_bytes = 0x02 ∷ 0x01 ∷ 0xd8 ∷ 0x04 ∷ 0x18 ∷ 0x49 ∷ 0x01 ∷ 0x80 ∷ 0x80 ∷ 0x80 ∷ 0x80 ∷ 0x10 ∷ 0x32 ∷ []

far_written : slip_bytes far (4294967296 ∷ 50 ∷ []) ≡ far_bytes
unfolding slip_bytes form_of any_wide writes groups groups_in
far_written = refl

-- read; by the old reader refused at 0; with small numbers alone malformed at 0, and at a later fault where there is one: a byte too many, an early end, a = b; a tenth
-- byte of 1 read, and of 2 refused; ten bytes with the top bit set at the end, which are broken, and nine, which are cut short
wide : outcomes true (
    far_bytes
    ∷ (2 ∷ 1 ∷ 1 ∷ 0 ∷ 1 ∷ 1 ∷ 5 ∷ 6 ∷ [])
    ∷ (2 ∷ 1 ∷ 1 ∷ 0 ∷ 1 ∷ 1 ∷ 5 ∷ 6 ∷ 7 ∷ [])
    ∷ (2 ∷ 1 ∷ 1 ∷ 0 ∷ 1 ∷ 1 ∷ 5 ∷ [])
    ∷ (2 ∷ 1 ∷ 1 ∷ 1 ∷ 1 ∷ 1 ∷ 5 ∷ 6 ∷ [])
    ∷ (2 ∷ 1 ∷ 1 ∷ 0 ∷ 1 ∷ 1 ∷ 0x80 ∷ 0x80 ∷ 0x80 ∷ 0x80 ∷ 0x80 ∷ 0x80 ∷ 0x80 ∷ 0x80 ∷ 0x80 ∷ 1 ∷ 6 ∷ [])
    ∷ (2 ∷ 1 ∷ 1 ∷ 0 ∷ 1 ∷ 1 ∷ 0x80 ∷ 0x80 ∷ 0x80 ∷ 0x80 ∷ 0x80 ∷ 0x80 ∷ 0x80 ∷ 0x80 ∷ 0x80 ∷ 2 ∷ 6 ∷ [])
    ∷ (2 ∷ 0xff ∷ 0xff ∷ 0xff ∷ 0xff ∷ 0xff ∷ 0xff ∷ 0xff ∷ 0xff ∷ 0xff ∷ 0xff ∷ [])
    ∷ (2 ∷ 0xff ∷ 0xff ∷ 0xff ∷ 0xff ∷ 0xff ∷ 0xff ∷ 0xff ∷ 0xff ∷ 0xff ∷ [])
    ∷ (3 ∷ 1 ∷ 1 ∷ 0 ∷ 1 ∷ 1 ∷ 5 ∷ 6 ∷ [])
    ∷ [])
    ≡ accepted far (4294967296 ∷ 50 ∷ []) ∷ malformed 0 ∷ malformed 8 ∷ malformed 7 ∷ malformed 4
    ∷ accepted (record { id = 1; scale = 1; a = 0; b = 1; pairs = 1 }) (9223372036854775808 ∷ 6 ∷ []) ∷ malformed 6 ∷ malformed 1 ∷ malformed 10 ∷ malformed 0 ∷ []
unfolding outcomes slip_in outcome_of slip_fault rest_fault wide_fault any_wide fault_from allowed wanted unended cut_short written same cut onto value values groups groups_in
wide = refl

far_old : slip_in false far_bytes ≡ malformed 0
unfolding slip_in outcome_of slip_fault rest_fault unended cut_short written same cut onto value values groups groups_in
far_old = refl
