-- The promise of an answer of any type, from what the code has of its refusal: `refused k` is the answer with the refusal k, and `same` says its numbers.
-- Assumes nothing.
use Prim.Native.Nat.{ℕ}
use mathlib.Core.Path.{◌≡◌, refl, ap, ◌∙◌}
use mathlib.Core.List.{List}
use mathlib.Core.Bool.{Bool, true, false, cond}
use lib.Dec.{eqb}
use borrow.Author.Tests.{eq-eqb, ne_eqb}
use Rattle.movie.specs.Rooms.{filled_room, room_after}
use Rattle.movie.specs.Answers.{given, Gives, Puts}

module _ {X Y : Type 0} (tell : X → List Y) (zeros : ℕ → List Y) (refused : ℕ → X) (same : (k : ℕ) → tell (refused k) ≡ zeros k) (x : X) where
  told : (b : Bool) (k : ℕ) → tell (cond b x (refused k)) ≡ cond b (tell x) (zeros k)
  told true k = refl
  told false k = same k

  -- the case says the numbers
  pub gives : (refusal : ℕ) (r : X) → r ≡ given refusal x refused → Gives tell zeros refused refusal x r
  gives refusal r e = record { answer = e; numbers = ap tell e ∙ told (eqb refusal 0) refusal }

  pub gives_refused : (refusal k : ℕ) → refusal ≡ k → (k ≡ 0 → ⊥) → Gives tell zeros refused refusal x (refused k)
  gives_refused refusal k e n = gives refusal (refused k) (rw (e, ne_eqb k 0 n))

  pub gives_answer : (refusal : ℕ) (r : X) → refusal ≡ 0 → r ≡ x → Gives tell zeros refused refusal x r
  gives_answer refusal r e d = gives refusal r (rw (eq-eqb refusal 0 e) d)

  module _ {Z : Type 0} (list room : List Z) where
    pub puts : (refusal : ℕ) (r : X) (after : List Z) → r ≡ given refusal x refused → after ≡ room_after refusal list room
        → Puts tell zeros refused refusal x r list room after
    puts refusal r after e p = let g = gives refusal r e in record { answer = g.answer; numbers = g.numbers; places = p }

    pub puts_refused : (refusal k : ℕ) → refusal ≡ k → (k ≡ 0 → ⊥) → Puts tell zeros refused refusal x (refused k) list room room
    unfolding room_after
    puts_refused refusal k e n = puts refusal (refused k) room (gives_refused refusal k e n).answer (rw (e, ne_eqb k 0 n))

    pub puts_answer : (refusal : ℕ) (r : X) (after : List Z) → refusal ≡ 0 → r ≡ x → after ≡ filled_room list room → Puts tell zeros refused refusal x r list room after
    unfolding room_after
    puts_answer refusal r after e d p = puts refusal r after (gives_answer refusal r e d).answer (rw (eq-eqb refusal 0 e) p)
