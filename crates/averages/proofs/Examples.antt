-- The paper's film W with edits, and others, computed from the definitions.
-- Assumes nothing.
use Rattle.std.specs.Prelude.{Option, Some, None}
use Prim.Native.Nat.{ℕ}
use mathlib.Core.Path.{◌≡◌, refl}
use mathlib.Core.List.{List, [], ◌∷◌}
use lib.IntN.{ℤ, pos, negsuc}
use lib.ListN.{replicate}
use Rattle.edits.specs.declared.Edit.{Edit}
use Rattle.rates.specs.Rates.{round_up, value_of, rate_of}
use Rattle.averages.specs.Averages.{covered, average_over}

abbrev entry : ℕ → ℤ → Edit
entry d m = record { duration = d; media = m; rate = 65536 }

-- of scale 600 in a movie of scale 600, as W is
abbrev ds : List ℕ
ds = 24 ∷ 24 ∷ 24 ∷ 48 ∷ []

abbrev zs : List ℕ
zs = 100 ∷ 50 ∷ 0 ∷ 70 ∷ []

abbrev of_w : List Edit → Option ℕ
of_w es = average_over 600 ds zs (covered 600 600 ds es)

-- "W with the edits (60,-1),(60,24) covers samples 2 to 4: 120 bytes over 96 units, so avvb is 6000"
w_edited : of_w (entry 60 (negsuc 0) ∷ entry 60 (pos 24) ∷ []) ≡ Some 6000
unfolding average_over rate_of value_of round_up
w_edited = refl

-- samples that two entries cover are added twice: 150 and 120 bytes over 48 and 96 units
w_overlapping : of_w (entry 48 (pos 0) ∷ entry 60 (pos 24) ∷ []) ≡ Some 9000
unfolding average_over rate_of value_of round_up
w_overlapping = refl

-- "18 also when no entry shows media"
w_nothing : of_w (entry 60 (negsuc 0) ∷ []) ≡ None
unfolding average_over rate_of
w_nothing = refl

-- where each of 256 entries covers a sample of 2^22 bytes the numerator is 2^64 or more, though its quotient is that of one entry
abbrev shown : ℕ → Option ℕ
shown n = average_over 4294967295 (4294967295 ∷ []) (4194304 ∷ []) (covered 4294967295 600 (4294967295 ∷ []) (replicate n (entry 600 (pos 0))))

shown_once : shown 1 ≡ Some 33554432
unfolding average_over rate_of value_of round_up
shown_once = refl

shown_too_often : shown 256 ≡ None
unfolding average_over rate_of value_of round_up
shown_too_often = refl
