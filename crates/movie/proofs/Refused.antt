-- What is known of a refusal that is met on the way to an answer, and of an answer.
-- Assumes nothing.
use Prim.Native.Nat.{ℕ}
use mathlib.Core.Path.{◌≡◌, sym, ap, ◌∙◌}
use native.Mathlib.Omega.{arith}
use borrow.Author.Tests.{ne_eqb}
use Rattle.std.specs.Prelude.{Result, Ok, Err}
use Rattle.refusals.specs.Refusals.{number, code}
use Rattle.refusals.specs.declared.Refusal.{Refusal}
use Rattle.refusals.proofs.Numbers.{number_some}
use Rattle.structure.specs.Rows.{or_else}

pub code_err : {A : Type 0} (n : ℕ) (r : Result A Refusal) (e : Refusal) → code r ≡ n → r ≡ Err e → n ≡ number e
code_err n r e h q = sym h ∙ ap code q

pub code_ok : {A : Type 0} (n : ℕ) (r : Result A Refusal) (x : A) → code r ≡ n → r ≡ Ok x → n ≡ 0
code_ok n r x h q = sym h ∙ ap code q

pub not_zero : (n : ℕ) (e : Refusal) → n ≡ number e → n ≡ 0 → ⊥
not_zero n e h z = omega (arith, number_some e)

-- a result is refused or answered
pub not_both : {A B : Type 0} (r : Result A Refusal) (e : Refusal) (x : A) → r ≡ Err e → r ≡ Ok x → B
not_both r e x p q = let z : number e ≡ 0 = sym (ap code p) ∙ ap code q in absurd (omega (arith, number_some e))

-- what is judged first is refused first
pub or_err : (n m : ℕ) (e : Refusal) → n ≡ number e → or_else n m ≡ number e
unfolding or_else
or_err n m e h = rw (ne_eqb n 0 (not_zero n e h)) h
