-- A rate is told by its divisor, its numerator and the least number that reaches it.
-- Assumes nothing.
use Rattle.std.specs.Prelude.{Some, None, Result, Ok, Err, OkIff}
use Rattle.std.specs.Result.{result_ok}
use Prim.Native.Nat.{ℕ, ◌≤◌, ◌<◌}
use mathlib.Core.Path.{◌≡◌, sym, ap, ◌∙◌}
use native.Mathlib.Omega.{arith}
use borrow.Author.Tests.{lt-ltb, le-ltb, eq-eqb, ne_eqb}
use Rattle.rates.specs.Rates.{Least, round_up, value_of, rate_of}
use Rattle.rates.proofs.Quotients.{is_round_up}

-- ---- values

pub value_small : (v : ℕ) → v < 4294967296 → value_of v ≡ Some v
unfolding value_of
value_small v h = rw (le-ltb 4294967295 v (omega arith))

pub value_large : (v : ℕ) → 4294967296 ≤ v → value_of v ≡ None
unfolding value_of
value_large v h = rw (lt-ltb 4294967295 v h)

-- a quotient that fits 32 bits, or none
pub value_is : {E : Type 0} (r : Result ℕ E) (v : ℕ) → OkIff r (v < 4294967296) v → result_ok r ≡ value_of v
unfolding value_of
value_is (Ok x) v h = let e = h.1 in let l = h.0 in rw (← e) (rw (le-ltb 4294967295 x (omega arith)))
value_is (Err e) v h = let l : 4294967296 ≤ v = omega (arith, h) in rw (lt-ltb 4294967295 v l)

-- ---- rates

pub rate_zero : (n d : ℕ) → d ≡ 0 → rate_of n d ≡ None
unfolding rate_of
rate_zero n d z = rw (eq-eqb d 0 z)

pub rate_over : (n d : ℕ) → (d ≡ 0 → ⊥) → 18446744073709551616 ≤ n → rate_of n d ≡ None
unfolding rate_of
rate_over n d z h = rw (ne_eqb d 0 z, le-ltb n 18446744073709551616 h)

pub rate_within : (n d : ℕ) → (d ≡ 0 → ⊥) → n < 18446744073709551616 → rate_of n d ≡ value_of (round_up n d)
unfolding rate_of
rate_within n d z h = rw (ne_eqb d 0 z, lt-ltb n 18446744073709551616 h)

-- the quotient enters by the promise of `ceiling` alone
pub rate_is : (n d : ℕ) {r : ℕ} → (d ≡ 0 → ⊥) → n < 18446744073709551616 → Least n d r → rate_of n d ≡ value_of r
rate_is n d z h x = let p : 0 < d = omega arith in rate_within n d z h ∙ ap value_of (sym (is_round_up p x))
