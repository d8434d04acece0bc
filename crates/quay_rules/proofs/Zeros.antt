-- Whether a 0 is among the sizes or the durations: numbers that are all the same, and runs one after the other.
-- Assumes nothing.
use Prim.Native.Nat.{ℕ, zero, suc, ◌≤◌, ◌<◌}
use mathlib.Core.Path.{◌≡◌, refl, sym, ap, ◌∙◌}
use mathlib.Core.Bool.{Bool, true, false, cond, ◌||◌}
use mathlib.Core.List.{List, [], ◌∷◌, ◌++◌}
use native.Mathlib.Omega.{arith}
use borrow.Author.Tests.{eq-eqb, ne_eqb}
use lib.Dec.{eqb}
use lib.ListN.{length, drop, replicate}
use Rattle.bigendian.specs.BigEndian.{u32_at}
use Rattle.lists.specs.Lists.{expand}
use Rattle.runs.specs.Runs.{runs_in}
use Rattle.runs.proofs.Turns.{spread_none, spread_next}
use Rattle.words.specs.Words.{sizes}
use Rattle.words.proofs.Turns.{sizes_common}
use Rattle.quay_rules.specs.Rules.{has_zero}

none_same : (n v : ℕ) → (v ≡ 0 → ⊥) → has_zero (replicate n v) ≡ false
none_same zero v z = refl
none_same (suc n) v z = rw (ne_eqb v 0 z) (none_same n v z)

-- a common size
pub none_common : (s : List ℕ) {common : ℕ} → common ≡ u32_at s 12 → (common ≡ 0 → ⊥) → has_zero (sizes s) ≡ false
none_common s e z = rw (sizes_common s e z) (none_same (u32_at s 16) _ z)

-- a run
pub run_none : (n v : ℕ) → n ≡ 0 → has_zero (replicate n v) ≡ false
run_none n v e = rw e

pub run_some : (n v : ℕ) → (n ≡ 0 → ⊥) → eqb v 0 ≡ has_zero (replicate n v)
run_some zero v z = absurd (z refl)
run_some (suc n) v z = go (eqb v 0) refl
  where
    go : (b : Bool) → eqb v 0 ≡ b → b ≡ cond (eqb v 0) true (has_zero (replicate n v))
    go true e = rw e
    go false e = sym (rw e (none_same n v (λ q. let y = sym e ∙ eq-eqb v 0 q in let w : ◌≡◌ {A = ℕ} 0 1 = cc in omega arith)))

-- some numbers, and those after them
zero_append : (xs ys : List ℕ) → has_zero (xs ++ ys) ≡ (has_zero xs || has_zero ys)
zero_append [] ys = refl
zero_append (x ∷ xs) ys = go (eqb x 0) (zero_append xs ys)
  where
    go : (b : Bool) → has_zero (xs ++ ys) ≡ (has_zero xs || has_zero ys) → cond b true (has_zero (xs ++ ys)) ≡ (cond b true (has_zero xs) || has_zero ys)
    go true e = refl
    go false e = e

-- the first run of a part
module _ (t : List ℕ) {n v : ℕ} {zero-run : Bool} (h : 8 ≤ length t) (e : n ≡ u32_at t 0) (f : v ≡ u32_at t 4) (r : zero-run ≡ has_zero (replicate n v)) where
  split : has_zero (expand (runs_in t)) ≡ (zero-run || has_zero (expand (runs_in (drop 8 t))))
  split = ap has_zero (spread_next t h e f) ∙ zero_append (replicate n v) (expand (runs_in (drop 8 t))) ∙ ap (λ (b : Bool). b || has_zero (expand (runs_in (drop 8 t)))) (sym r)

  pub zero_here : zero-run ≡ true → has_zero (expand (runs_in t)) ≡ true
  zero_here z = split ∙ rw z

  pub zero_on : zero-run ≡ false → has_zero (expand (runs_in t)) ≡ has_zero (expand (runs_in (drop 8 t)))
  zero_on z = split ∙ rw z

pub zero_end : (t : List ℕ) → length t < 8 → has_zero (expand (runs_in t)) ≡ false
zero_end t h = ap has_zero (spread_none t h)
