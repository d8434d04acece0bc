-- Laws of Booleans: what `&&`, `||`, `not` and `cond` of answers say of each answer, and the answers of them.
-- Assumes nothing.
use Prim.Native.Nat.{ℕ, ◌<◌}
use mathlib.Core.Path.{◌≡◌, refl}
use mathlib.Core.Bool.{Bool, true, false, cond, not, ◌&&◌, ◌||◌}
use native.Mathlib.Omega.{arith}

-- ---- and

pub and_left : (a b : Bool) → (a && b) ≡ true → a ≡ true
and_left true b e = refl
and_left false b e = e

pub and_right : (a b : Bool) → (a && b) ≡ true → b ≡ true
and_right true b e = e
and_right false b e = cc

pub and_both : (a b : Bool) → (a && b) ≡ true → (a ≡ true) × (b ≡ true)
and_both a b e = (and_left a b e, and_right a b e)

pub and_false : (a : Bool) → (a && false) ≡ false
and_false true = refl
and_false false = refl

pub and_true : (a : Bool) → (a && true) ≡ false → a ≡ false
and_true true e = e
and_true false e = refl

-- ---- or

pub or_left : (a b : Bool) → (a || b) ≡ false → a ≡ false
or_left true b e = e
or_left false b e = refl

pub or_right : (a b : Bool) → (a || b) ≡ false → b ≡ false
or_right true b e = let z : ◌≡◌ {A = Bool} true false = e in cc
or_right false b e = e

pub or_both : (a b : Bool) → (a || b) ≡ false → (a ≡ false) × (b ≡ false)
or_both a b e = (or_left a b e, or_right a b e)

pub or_neither : (a b : Bool) → a ≡ false → b ≡ false → (a || b) ≡ false
or_neither a b p q = rw (p, q)

pub or_second : (a b : Bool) → b ≡ true → (a || b) ≡ true
or_second true b e = refl
or_second false b e = e

-- ---- cond

pub cond_both : (a b : Bool) → cond a b false ≡ true → (a ≡ true) × (b ≡ true)
cond_both true b e = (refl, e)
cond_both false b e = let z : ◌≡◌ {A = ℕ} 0 1 = cc in absurd (omega arith)

pub cond_unless : (a b : Bool) → cond a false b ≡ true → (a ≡ false) × (b ≡ true)
cond_unless true b e = let z : ◌≡◌ {A = ℕ} 0 1 = cc in absurd (omega arith)
cond_unless false b e = (refl, e)

-- a refusal n that is not given
pub cond_zero : (a : Bool) (n : ℕ) → 0 < n → cond a 0 n ≡ 0 → a ≡ true
cond_zero true n h e = refl
cond_zero false n h e = absurd (omega arith)

-- ---- not

pub not_not : (a : Bool) → not (not a) ≡ a
not_not true = refl
not_not false = refl

pub not_or : (a b : Bool) → not (a || not b) ≡ (not a && b)
not_or true b = refl
not_or false true = refl
not_or false false = refl

-- two tests of which one passes exactly if the other does not
pub opposite : (a b : Bool) → (a ≡ true → b ≡ false) → (b ≡ false → a ≡ true) → a ≡ not b
opposite true true f g = let e = f refl in let z : ◌≡◌ {A = ℕ} 0 1 = cc in absurd (omega arith)
opposite true false f g = refl
opposite false true f g = refl
opposite false false f g = let e = g refl in let z : ◌≡◌ {A = ℕ} 0 1 = cc in absurd (omega arith)
