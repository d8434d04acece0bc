-- Values into lent places, whatever they are; and the result where the places are too few.
-- Assumes nothing.
use Prim.Native.Nat.{ℕ, zero, suc, ◌≤◌, ◌<◌}
use mathlib.Core.Path.{◌≡◌, refl, ap}
use mathlib.Core.List.{List, ◌++◌}
use native.Mathlib.Omega.{arith}
use borrow.Author.Tests.{ne_eqb, lt-ltb, le-ltb}
use lib.ListN.{length, drop}
use Rattle.structure.specs.Rows.{or_else}
use Rattle.movie.specs.Rooms.{no_room, filled_room, room_after}
use Rattle.hand.specs.Places.{Hands}

-- a refusal that nothing comes after is itself
pub own : (refusal : ℕ) → refusal ≡ or_else refusal 0
unfolding or_else
own zero = refl
own (suc n) = rw (ne_eqb (suc n) 0 (λ e. omega arith))

module _ {A : Type 0} (values places : List A) (refusal : ℕ) where
  -- too few places
  pub short : (r : ℕ) → length places < length values → r ≡ or_else refusal 16 → Hands refusal values places r places
  unfolding no_room room_after
  short r h e =
      record { result = rw (lt-ltb (length places) (length values) h) e; placed = rw (lt-ltb (length places) (length values) h) refl }

  -- all of them put at the front
  pub all : (front : List A) → length values ≤ length places → front ≡ values → Hands refusal values places refusal (front ++ drop (length values) places)
  unfolding no_room room_after filled_room
  all front h e =
      record {
        result = rw (le-ltb (length places) (length values) h) (own refusal);
        placed = rw (le-ltb (length places) (length values) h) (ap (λ l. l ++ drop (length values) places) e);
      }
