-- A rate is no higher than another where, by cross-multiplication, its quotient is not: the least number that reaches the one reaches the other too.
-- Assumes nothing.
use Rattle.std.specs.Prelude.{Some}
use Prim.Native.Nat.{ℕ, ◌*◌, ◌≤◌, ◌<◌}
use mathlib.Core.Path.{◌≡◌, sym, ap, ◌∙◌}
use native.Mathlib.Omega.{arith}
use native.Mathlib.Nat.{mul_assoc, mul_comm, mul_right_comm, mul-le-mul, mul-le-mul_right, le_of_mul-le-mul_right}
use native.Mathlib.Decide.{ℕ_discrete, dec_lt}
use Rattle.rates.specs.Rates.{Least, round_up, value_of, rate_of}
use Rattle.rates.proofs.Quotients.{round_up_least}
use Rattle.rates.proofs.Values.{rate_zero, rate_over, rate_within, value_small, value_large}

-- b × (8 × c) = 8 × b × c
pub eightfold : (b c : ℕ) → b * (8 * c) ≡ 8 * b * c
eightfold b c = sym (mul_assoc b 8 c) ∙ ap (λ (x : ℕ). x * c) (mul_comm b 8)

-- ---- what a rate that is computed says

pub record Rated (n d v : ℕ) : Type 0 where
  pub divides : 0 < d
  pub rounded : Least n d v
  pub small : v < 4294967296

pub rate_known : (n d v : ℕ) → rate_of n d ≡ Some v → Rated n d v
rate_known n d v e = elim (ℕ_discrete d 0) [
  | yes z ↦ let o = rate_zero n d z in let q : ◌≡◌ {A = ℕ} 0 1 = cc in absurd (omega arith)
  | no z ↦ elim (dec_lt n 18446744073709551616) [
    | no l ↦ let o = rate_over n d z (omega arith) in let q : ◌≡◌ {A = ℕ} 0 1 = cc in absurd (omega arith)
    | yes l ↦
        let o : value_of (round_up n d) ≡ Some v = sym (rate_within n d z l) ∙ e in
        let p : 0 < d = omega arith in
        elim (dec_lt (round_up n d) 4294967296) [
          | no k ↦ let g = value_large (round_up n d) (omega arith) in let q : ◌≡◌ {A = ℕ} 0 1 = cc in absurd (omega arith)
          | yes k ↦
              let g = value_small (round_up n d) k in
              let q : round_up n d ≡ v = cc in
              record { divides = p; rounded = rw q at (round_up_least n d p); small = omega arith }
        ]
  ]
]

-- ---- n / d is at most m / e

pub record NoHigher (n d v : ℕ) : Type 0 where
  pub rate : ℕ
  pub computed : rate_of n d ≡ Some rate
  pub low : rate ≤ v

module _ (k n d m e v : ℕ) (p : 0 < d) (small : d < 4294967296) (h : n * e ≤ m * d) (r : rate_of (m * k) e ≡ Some v) where
  -- n k e = n e k ≤ m d k = m k d ≤ v e d = v d e
  reached : n * k ≤ v * d
  reached =
      let t = rate_known (m * k) e v r in
      let a = mul-le-mul_right k h in
      let b = mul-le-mul_right d t.rounded.reaches in
      let c : n * k * e ≤ v * d * e = omega (arith, mul_right_comm n k e, mul_right_comm m d k, mul_right_comm v e d) in
      le_of_mul-le-mul_right c t.divides

  pub no-higher : NoHigher (n * k) d v
  no-higher =
      let t = rate_known (m * k) e v r in
      let a = reached in
      let l : round_up (n * k) d ≤ v = (round_up_least (n * k) d p).least v a in
      let b : v * d ≤ 4294967295 * 4294967295 = mul-le-mul {n₂ = 4294967295} {m₂ = 4294967295} (omega (arith, t.small)) (omega arith) in
      record {
        rate = round_up (n * k) d;
        computed = rate_within (n * k) d (λ z. omega arith) (omega arith) ∙ value_small (round_up (n * k) d) (omega (arith, t.small));
        low = l;
      }
