-- The turns of a search by halving, and what it finds.
-- Assumes nothing.
use Prim.Native.Nat.{ℕ, zero, suc, ◌+◌, ◌-◌, ◌/◌, ◌≤◌, ◌<◌}
use mathlib.Core.Path.{◌≡◌, refl, sym, ◌∙◌}
use mathlib.Core.Bool.{Bool, true, false, cond}
use native.Mathlib.Omega.{arith}
use borrow.Author.Tests.{lt-ltb, le-ltb, ltb-true, ltb-false, le-leb, lt-leb}
use lib.Dec.{ltb, leb}
use Rattle.lists.specs.Halving.{halving, last_passing}

-- between low and high the search comes to what it comes to between 0 and n
pub record Halves (p : ℕ → Bool) (n low high : ℕ) : Type 0 where
  pub turns : ℕ
  pub enough : high - low ≤ turns
  pub same : halving p turns low high ≡ last_passing p n

module _ (p : ℕ → Bool) (n : ℕ) where
  pub halves_start : Halves p n 0 n
  unfolding last_passing
  halves_start = record { turns = n; enough = omega arith; same = refl }

  stopped : (k low high : ℕ) → high - low ≤ 1 → halving p k low high ≡ low
  stopped zero low high h = refl
  stopped (suc k) low high h = rw (le-ltb 1 (high - low) h)

  module _ (low high m : ℕ) (h : 1 < high - low) (e : m ≡ low + (high - low) / 2) where
    turn_up : (k : ℕ) → p m ≡ true → halving p (suc k) low high ≡ halving p k m high
    turn_up k t = let t2 : p (low + (high - low) / 2) ≡ true = rw (← e) t in rw (e, lt-ltb 1 (high - low) h, t2)

    turn_down : (k : ℕ) → p m ≡ false → halving p (suc k) low high ≡ halving p k low m
    turn_down k t = let t2 : p (low + (high - low) / 2) ≡ false = rw (← e) t in rw (e, lt-ltb 1 (high - low) h, t2)

    up_by : (k : ℕ) → high - low ≤ k → halving p k low high ≡ last_passing p n → p m ≡ true → Halves p n m high
    up_by zero l s t = absurd (omega arith)
    up_by (suc k) l s t = record { turns = k; enough = omega (arith, e); same = sym (turn_up k t) ∙ s }

    down_by : (k : ℕ) → high - low ≤ k → halving p k low high ≡ last_passing p n → p m ≡ false → Halves p n low m
    down_by zero l s t = absurd (omega arith)
    down_by (suc k) l s t = record { turns = k; enough = omega (arith, e); same = sym (turn_down k t) ∙ s }

    pub halves_up : Halves p n low high → p m ≡ true → Halves p n m high
    halves_up s t = up_by s.turns s.enough s.same t

    pub halves_down : Halves p n low high → p m ≡ false → Halves p n low m
    halves_down s t = down_by s.turns s.enough s.same t

  pub halves_end : (low high : ℕ) → high - low ≤ 1 → Halves p n low high → low ≡ last_passing p n
  halves_end low high h s = sym (stopped s.turns low high h) ∙ s.same

-- the test whether a number y, read as v, is not above x
pub not_above : (v y x : ℕ) → v ≡ y → v ≤ x → leb y x ≡ true
not_above v y x e h = le-leb y x (omega arith)

pub is_above : (v y x : ℕ) → v ≡ y → x < v → leb y x ≡ false
is_above v y x e h = lt-leb y x (omega arith)

-- ---- what it finds

either_way : {A : Type 0} (P : A → Type 0) (b : Bool) (x y : A) → (b ≡ true → P x) → (b ≡ false → P y) → P (cond b x y)
either_way P true x y f g = f refl
either_way P false x y f g = g refl

-- of n tests: the last that passes before one that fails, or the first
pub record LastOf (p : ℕ → Bool) (n r : ℕ) : Type 0 where
  pub within : 0 < r → r < n
  pub passes : 0 < r → p r ≡ true
  pub fails : r + 1 < n → p (r + 1) ≡ false

module _ (p : ℕ → Bool) where
  low_passes : (k low high : ℕ) → (0 < low → p low ≡ true) → 0 < halving p k low high → p (halving p k low high) ≡ true
  low_passes zero low high h = h
  low_passes (suc k) low high h =
      let P : ℕ → Type 0 = λ r. 0 < r → p r ≡ true in
      either_way P (ltb 1 (high - low)) _ _
      (λ a. either_way P (p (low + (high - low) / 2)) _ _ (λ t. low_passes k (low + (high - low) / 2) high (λ z. t)) (λ t. low_passes k low (low + (high - low) / 2) h))
      (λ a. h)

  below_high : (k low high : ℕ) → low < high → halving p k low high < high
  below_high zero low high h = h
  below_high (suc k) low high h =
      let P : ℕ → Type 0 = λ r. r < high in
      either_way P (ltb 1 (high - low)) _ _
      (λ a.
      let l = ltb-true 1 (high - low) a in
      either_way P (p (low + (high - low) / 2)) _ _
      (λ t. below_high k (low + (high - low) / 2) high (omega arith))
      (λ t. omega (arith, below_high k low (low + (high - low) / 2) (omega arith))))
      (λ a. h)

  high_fails : (n k low high : ℕ) → high - low ≤ k → low < high → (high < n → p high ≡ false) → halving p k low high + 1 < n → p (halving p k low high + 1) ≡ false
  high_fails n zero low high l h f = absurd (omega arith)
  high_fails n (suc k) low high l h f =
      let P : ℕ → Type 0 = λ r. r + 1 < n → p (r + 1) ≡ false in
      either_way P (ltb 1 (high - low)) _ _
      (λ a.
      let b = ltb-true 1 (high - low) a in
      either_way P (p (low + (high - low) / 2)) _ _
      (λ t. high_fails n k (low + (high - low) / 2) high (omega arith) (omega arith) f)
      (λ t. high_fails n k low (low + (high - low) / 2) (omega arith) (omega arith) (λ z. t)))
      (λ a z. let b = ltb-false 1 (high - low) a in let e : high ≡ low + 1 = omega arith in rw e at (f (omega arith)))

  last_some : (n : ℕ) → 0 < n → LastOf p n (halving p n 0 n)
  last_some n h = record {
    within = λ z. below_high n 0 n h;
    passes = low_passes n 0 n (λ z. absurd (omega arith));
    fails = high_fails n n 0 n (omega arith) h (λ z. absurd (omega arith));
  }

  pub last-passing : (n : ℕ) → LastOf p n (last_passing p n)
  unfolding last_passing
  last-passing zero = record { within = λ z. absurd (omega arith); passes = λ z. absurd (omega arith); fails = λ z. absurd (omega arith) }
  last-passing (suc n) = last_some (suc n) (omega arith)
