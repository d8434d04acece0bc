-- The promise of an answer, from what the code has of its refusal: for every question, whatever it answers.
-- Assumes nothing.
use Prim.Native.Nat.{ℕ, ◌≤◌}
use mathlib.Core.Path.{◌≡◌, refl, sym, ap, ◌∙◌}
use mathlib.Core.List.{List}
use native.Mathlib.Omega.{arith}
use native.Mathlib.Decide.{ℕ_discrete}
use borrow.Author.Tests.{eq-eqb, ne_eqb}
use Rattle.std.specs.Prelude.{Result, Err}
use Rattle.refusals.specs.declared.Refusal.{Refusal}
use Rattle.refusals.specs.Refusals.{number, refusal_of, refused}
use Rattle.refusals.proofs.Numbers.{number_some, number_of, err_refused}
use Rattle.movie.specs.Rooms.{filled_room, room_after}
use Rattle.movie.specs.Answers.{given, Gives, Puts}

module _ {A Y : Type 0} (tell : Result A Refusal → List Y) (zeros : ℕ → List Y) (same : (e : Refusal) → tell (Err e) ≡ zeros (number e)) (x : Result A Refusal) where
  pub gives_err : (refusal : ℕ) (e : Refusal) → refusal ≡ number e → Gives tell zeros refused refusal x (Err e)
  gives_err refusal e h =
      let n : refusal ≡ 0 → ⊥ = λ z. omega (arith, number_some e) in
      record { answer = rw (ne_eqb refusal 0 n, h) (err_refused e); numbers = rw (ne_eqb refusal 0 n, h) (same e) }

  pub gives_refused : (refusal k : ℕ) → refusal ≡ k → (k ≡ 0 → ⊥) → k ≤ 21 → Gives tell zeros refused refusal x (refused k)
  gives_refused refusal k e n h = gives_err refusal (refusal_of k) (e ∙ sym (number_of k (omega arith) h))

  pub gives_answer : (refusal : ℕ) (r : Result A Refusal) → refusal ≡ 0 → r ≡ x → Gives tell zeros refused refusal x r
  gives_answer refusal r e d = record { answer = rw (eq-eqb refusal 0 e) d; numbers = rw (eq-eqb refusal 0 e) (ap tell d) }

  -- the case says the numbers
  pub gives : (refusal : ℕ) (r : Result A Refusal) → refusal ≤ 21 → r ≡ given refusal x refused → Gives tell zeros refused refusal x r
  gives refusal r h e = elim (ℕ_discrete refusal 0) [
    | yes z ↦ gives_answer refusal r z (rw (eq-eqb refusal 0 z) at e)
    | no n ↦ let k : r ≡ refused refusal = rw (ne_eqb refusal 0 n) at e in rw k (gives_refused refusal refusal refl n h)
  ]

  module _ {Z : Type 0} (list room : List Z) where
    pub puts : (refusal : ℕ) (r : Result A Refusal) (after : List Z) → refusal ≤ 21 → r ≡ given refusal x refused → after ≡ room_after refusal list room
        → Puts tell zeros refused refusal x r list room after
    puts refusal r after h e p = let g = gives refusal r h e in record { answer = g.answer; numbers = g.numbers; places = p }

    pub puts_err : (refusal : ℕ) (e : Refusal) → refusal ≡ number e → Puts tell zeros refused refusal x (Err e) list room room
    unfolding room_after
    puts_err refusal e h =
        let g = gives_err refusal e h in
        let n : refusal ≡ 0 → ⊥ = λ z. omega (arith, number_some e) in
        record { answer = g.answer; numbers = g.numbers; places = rw (ne_eqb refusal 0 n) }

    pub puts_refused : (refusal k : ℕ) → refusal ≡ k → (k ≡ 0 → ⊥) → k ≤ 21 → Puts tell zeros refused refusal x (refused k) list room room
    puts_refused refusal k e n h = puts_err refusal (refusal_of k) (e ∙ sym (number_of k (omega arith) h))

    pub puts_answer : (refusal : ℕ) (r : Result A Refusal) (after : List Z) → refusal ≡ 0 → r ≡ x → after ≡ filled_room list room
        → Puts tell zeros refused refusal x r list room after
    unfolding room_after
    puts_answer refusal r after e d p =
        let g = gives_answer refusal r e d in record { answer = g.answer; numbers = g.numbers; places = rw (eq-eqb refusal 0 e) p }
