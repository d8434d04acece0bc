-- The quotient rounded up is the least number that, times the divisor, reaches the numerator, and the only one: by cases on whether anything is left.
-- Assumes nothing.
use Prim.Native.Nat.{ℕ, min, ◌+◌, ◌*◌, ◌/◌, ◌%◌, ◌≤◌, ◌<◌}
use mathlib.Core.Path.{◌≡◌}
use native.Mathlib.Omega.{arith}
use native.Mathlib.Nat.{div-add-mod', mod-lt, add-mul, one-mul, mul-le-mul_right, le_antisymm}
use native.Mathlib.Decide.{ℕ_discrete, dec_lt}
use borrow.Author.Tests.{eq-eqb, ne_eqb}
use Rattle.rates.specs.Rates.{Least, round_up}

-- two least numbers are one
pub least_only : {n d r s : ℕ} → Least n d r → Least n d s → r ≡ s
least_only {n} {d} {r} {s} x y = le_antisymm (x.least s y.reaches) (y.least r x.reaches)

-- nothing is left: the quotient
pub least_exact : (n d : ℕ) → 0 < d → n % d ≡ 0 → Least n d (n / d)
least_exact n d h z = record {
  reaches = omega (arith, div-add-mod' n d);
  least = λ q k. fewer q k;
}
  where
    -- n = (n / d) d ≤ q d
    fewer : (q : ℕ) → n ≤ q * d → n / d ≤ q
    fewer q k = elim (dec_lt q (n / d)) [
      | yes l ↦ absurd (omega (arith, div-add-mod' n d, mul-le-mul_right d l, add-mul q 1 d, one-mul d))
      | no l ↦ omega arith
    ]

-- something is left: one more
pub least_more : (n d : ℕ) → 0 < d → (n % d ≡ 0 → ⊥) → Least n d (n / d + 1)
least_more n d h z = record {
  reaches = omega (arith, div-add-mod' n d, mod-lt n {m = d} h, add-mul (n / d) 1 d, one-mul d);
  least = λ q k. fewer q k;
}
  where
    fewer : (q : ℕ) → n ≤ q * d → n / d + 1 ≤ q
    fewer q k = elim (dec_lt (n / d) q) [
      | yes l ↦ omega arith
      | no l ↦
          let m : q ≤ n / d = omega arith in
          let e : n % d ≡ 0 = omega (arith, div-add-mod' n d, mul-le-mul_right d m) in
          absurd (z e)
    ]

-- "Quotients are rounded up": to the least number that reaches
pub round_up_least : (n d : ℕ) → 0 < d → Least n d (round_up n d)
unfolding round_up
round_up_least n d h = elim (ℕ_discrete (n % d) 0) [
  | yes e ↦ rw (eq-eqb (n % d) 0 e) (least_exact n d h e)
  | no e ↦ rw (ne_eqb (n % d) 0 e) (least_more n d h e)
]

-- what a caller of `ceiling` has from its promise
pub is_round_up : {n d r : ℕ} → 0 < d → Least n d r → r ≡ round_up n d
is_round_up {n} {d} h x = least_only x (round_up_least n d h)

-- as std computes it
pub least_ceil : (n d : ℕ) → 0 < d → Least n d (n / d + min 1 (n % d))
least_ceil n d h = elim (ℕ_discrete (n % d) 0) [
  | yes e ↦ let k : n / d + min 1 (n % d) ≡ n / d = omega arith in rw k (least_exact n d h e)
  | no e ↦ let k : n / d + min 1 (n % d) ≡ n / d + 1 = omega arith in rw k (least_more n d h e)
]
