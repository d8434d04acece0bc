-- The numbers of a position, put into places, are that position again.
-- Assumes nothing.
use Prim.Native.Nat.{ℕ, ◌%◌, ◌≤◌, ◌<◌}
use mathlib.Core.Path.{◌≡◌, refl, sym, ap, ◌∙◌}
use mathlib.Core.List.{List, ◌++◌}
use native.Mathlib.Omega.{arith}
use native.Mathlib.Nat.{mod-eq_of_lt}
use borrow.Author.Tests.{le-ltb}
use lib.ListN.{length, drop}
use Rattle.movie.specs.Rooms.{no_room, filled_room, room_after}
use Rattle.hand.specs.Places.{Hands}
use Rattle.stepping.specs.declared.Stepper.{Stepper}
use Rattle.position_numbers.specs.Position.{stepper_numbers, stepper_in, HandsPosition}

-- the fields of 32 bits have no more
pub record Fits (p : Stepper) : Type 0 where
  pub samples : p.samples < 4294967296
  pub index : p.moving.index < 4294967296
  pub times_count : p.moving.times.count < 4294967296
  pub times_each : p.moving.times.each < 4294967296
  pub shifts_count : p.moving.shifts.count < 4294967296
  pub shifts_each : p.moving.shifts.each < 4294967296
  pub per : p.moving.dealt.cursor.per < 4294967296
  pub description : p.moving.dealt.cursor.description < 4294967296
  pub chunk : p.moving.dealt.chunk < 4294967296
  pub rest : p.moving.dealt.rest < 4294967296

-- whatever follows them
pub numbers_again : (p : Stepper) (rest : List ℕ) → Fits p → stepper_in (stepper_numbers p ++ rest) ≡ p
unfolding stepper_numbers stepper_in
numbers_again p rest f =
    rw (
      mod-eq_of_lt f.samples,
      mod-eq_of_lt f.index,
      mod-eq_of_lt f.times_count,
      mod-eq_of_lt f.times_each,
      mod-eq_of_lt f.shifts_count,
      mod-eq_of_lt f.shifts_each,
      mod-eq_of_lt f.per,
      mod-eq_of_lt f.description,
      mod-eq_of_lt f.chunk,
      mod-eq_of_lt f.rest,
    )

pub hands_position : (p : Stepper) (places : List ℕ) (r : ℕ) (after : List ℕ) → Fits p → Hands 0 (stepper_numbers p) places r after → HandsPosition p places r after
unfolding no_room room_after filled_room stepper_numbers
hands_position p places r after f h = record {
  handed = h;
  again = λ l.
      let e : after ≡ stepper_numbers p ++ drop 29 places = rw (le-ltb (length places) 29 l) at h.placed in
      rw e (numbers_again p (drop 29 places) f);
}
