-- The numbers of a handle, put into places, are that handle again.
-- Assumes nothing.
use Prim.Native.Nat.{ℕ, ◌≤◌, ◌<◌}
use mathlib.Core.Path.{◌≡◌}
use mathlib.Core.List.{List, ◌++◌}
use native.Mathlib.Nat.{mod-eq_of_lt}
use borrow.Author.Tests.{le-ltb}
use lib.ListN.{length, drop}
use Rattle.movie.specs.Rooms.{no_room, filled_room, room_after}
use Rattle.hand.specs.Places.{Hands}
use Rattle.opened.specs.declared.Opened.{Opened}
use Rattle.host_opened.specs.Handle.{opened_numbers, opened_in, HandsHandle}

-- the fields of 32 bits have no more
pub record Fits (h : Opened) : Type 0 where
  pub samples : h.samples < 4294967296
  pub chunks : h.chunks < 4294967296
  pub scale : h.scale < 4294967296
  pub movie : h.movie < 4294967296
  pub total : h.total < 4294967296

-- whatever follows them
pub numbers_again : (h : Opened) (rest : List ℕ) → Fits h → opened_in (opened_numbers h ++ rest) ≡ h
unfolding opened_numbers opened_in
numbers_again h rest f = rw (mod-eq_of_lt f.samples, mod-eq_of_lt f.chunks, mod-eq_of_lt f.scale, mod-eq_of_lt f.movie, mod-eq_of_lt f.total)

pub hands_handle : (h : Opened) (places : List ℕ) (r : ℕ) (after : List ℕ) → Fits h → Hands 0 (opened_numbers h) places r after → HandsHandle h places r after
unfolding no_room room_after filled_room opened_numbers
hands_handle h places r after f d = record {
  handed = d;
  again = λ l.
      let e : after ≡ opened_numbers h ++ drop 19 places = rw (le-ltb (length places) 19 l) at d.placed in
      rw e (numbers_again h (drop 19 places) f);
}
