-- What the functions of the slip writer promise one another. These need not be believed: a proof shows that they come to the definitions of Slips.
use Rattle.std.specs.Prelude.{ℕ, ◌^◌, ◌<◌, ◌≡◌, cond, List, length, eqb, Result, Ok}
use Rattle.slip_head.specs.declared.Head.{Head}
use Rattle.movie.specs.Rooms.{no_room, room_after}
use Rattle.refusals.specs.Refusals.{refused}
use Rattle.refusals.specs.declared.Refusal.{Refusal}

-- the numbers of a slip before its pairs are below 2 ^ 32
pub record NarrowHead (h : Head) : Type 0 where
  pub id : h.id < 2 ^ 32
  pub scale : h.scale < 2 ^ 32
  pub a : h.a < 2 ^ 32
  pub b : h.b < 2 ^ 32
  pub pairs : h.pairs < 2 ^ 32

-- bytes put into the first places of what is lent, where they fit, or refused 16
pub record PutSlip (bytes out : List ℕ) (r : Result ℕ Refusal) (after : List ℕ) : Type 0 where
  pub answer : r ≡ cond (eqb (no_room bytes out) 0) (Ok (length bytes)) (refused (no_room bytes out))
  pub places : after ≡ room_after (no_room bytes out) bytes out
