-- What every question promises of its answer: which case it is, document 01's number and values of it, and the lent room after it.
use Rattle.std.specs.Prelude.{ℕ, ◌≡◌, List, cond, eqb}
use Rattle.movie.specs.Rooms.{room_after}

-- the answer where nothing is refused, and else the refusal
abbrev pub given : {X : Type 0} → ℕ → X → (ℕ → X) → X
given refusal answer refused = cond (eqb refusal 0) answer (refused refusal)

-- that r is the answer x, or the refusal. `tell` sets out the number and the values of each case; of a refusal they are `zeros`
pub record Gives {X Y : Type 0} (tell : X → List Y) (zeros : ℕ → List Y) (refused : ℕ → X) (refusal : ℕ) (x r : X) : Type 0 where
  pub answer : r ≡ given refusal x refused
  pub numbers : tell r ≡ given refusal (tell x) zeros

-- the same, with a list in lent room
pub record Puts {X Y Z : Type 0} (tell : X → List Y) (zeros : ℕ → List Y) (refused : ℕ → X) (refusal : ℕ) (x r : X)
    (list room after : List Z) : Type 0 where
  pub answer : r ≡ given refusal x refused
  pub numbers : tell r ≡ given refusal (tell x) zeros
  pub places : after ≡ room_after refusal list room
