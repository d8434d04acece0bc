-- The numbers of a slip that is read, in the order of documents 01 and 02: the refusal, 0 for none, and the values, zeros with a refusal
-- but for the place of 17.
use Rattle.std.specs.Prelude.{ℕ, Bool, List, [], length}
use Rattle.slip.specs.Slip.{Outcome, accepted, malformed, slip_in, numbers_for}

-- "the numbers after the form": ID, scale, a, b and the number of pairs; and the place that "refusal 17 shall carry", 0 without it.
-- any: whether form 2 is read too
abbrev pub of_slip_reading : Bool → List ℕ → List ℕ → List ℕ
of_slip_reading any bs room = numbers_for (length room) (slip_in any bs)

-- "the pairs in lent 32-bit numbers"; in 64-bit ones where form 2 is read, which "has numbers below 2^64"
unfoldable pub pairs_of : Outcome → List ℕ
pairs_of (accepted h pairs) = pairs
pairs_of (malformed place) = []

-- the refusal before the room is looked at: 17, or 0
unfoldable pub outcome_refusal : Outcome → ℕ
outcome_refusal (accepted h pairs) = 0
outcome_refusal (malformed place) = 17
