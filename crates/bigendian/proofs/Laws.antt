-- Laws of big-endian numbers, each stated once over the width and shown byte by byte.
-- Assumes nothing.
use Prim.Native.Nat.{ℕ, zero, suc, ◌+◌, ◌*◌, ◌-◌, ◌^◌, ◌≤◌, ◌<◌}
use mathlib.Core.Path.{◌≡◌, refl, sym, ap, ◌∙◌}
use mathlib.Core.List.{List}
use lib.ListN.{length, get_or, take, drop, get_or-eq_default}
use lib.Seq.{get_or-drop, get_or-take}
use native.Mathlib.Nat.{add-zero, add-suc, add_assoc, mul-one, mul_assoc, pow-suc}
use native.Mathlib.Numerals.{unary_clauses}
use native.Mathlib.Omega.{arith}
use Rattle.bigendian.specs.BigEndian.{be_at}

-- a number of n + m bytes is one of n bytes followed by one of m
pub be_at_join : (n m : ℕ) (s : List ℕ) (at : ℕ) → be_at (n + m) s at ≡ be_at n s at * 256 ^ m + be_at m s (at + n)
unfolding be_at
be_at_join n zero s at = simp (add-zero, mul-one)
be_at_join n (suc k) s at =
    let ih = be_at_join n k s at in
    let p = ap (λ (x : ℕ). be_at n s at * x) (pow-suc 256 k) ∙ sym (mul_assoc (be_at n s at) (256 ^ k) 256) in
    rw (add-suc, add_assoc at n k) (omega (arith, ih, p))

-- a number of n bytes is one of n - 1 followed by the last byte
pub be_at_last : (n : ℕ) (s : List ℕ) (at : ℕ) → 0 < n → be_at n s at ≡ be_at (n - 1) s at * 256 + get_or s (at + (n - 1)) 0
unfolding be_at
be_at_last zero s at h = omega arith
be_at_last (suc k) s at h = simp unary_clauses

-- a number in what follows the first k bytes
pub be_at_drop : (n k : ℕ) (s : List ℕ) (at : ℕ) → be_at n (drop k s) at ≡ be_at n s (k + at)
unfolding be_at
be_at_drop zero k s at = refl
be_at_drop (suc n) k s at = rw (be_at_drop n k s at, get_or-drop, add_assoc k at n)

-- a number in the first k bytes
pub be_at_take : (n k : ℕ) (s : List ℕ) (at : ℕ) → at + n ≤ k → be_at n (take k s) at ≡ be_at n s at
unfolding be_at
be_at_take zero k s at h = refl
be_at_take (suc n) k s at h =
    let h₁ : at + n ≤ k = omega arith in
    let h₂ : at + n < k = omega arith in
    rw (be_at_take n k s at h₁, get_or-take)

-- a number of n bytes is below 256 ^ n
pub be_at_below : (n : ℕ) (s : List ℕ) (at : ℕ) → ((i : ℕ) → get_or s i 0 < 256) → be_at n s at < 256 ^ n
unfolding be_at
be_at_below zero s at b = omega arith
be_at_below (suc n) s at b = rw pow-suc (omega (arith, be_at_below n s at b, b (at + n)))

-- a number past the end is 0
pub be_at_past : (n : ℕ) (s : List ℕ) (at : ℕ) → length s ≤ at → be_at n s at ≡ 0
unfolding be_at
be_at_past zero s at h = refl
be_at_past (suc n) s at h = omega (arith, be_at_past n s at h, get_or-eq_default s 0 {n = at + n} (omega arith))
