-- The loop of `total_duration`: what is added and what the rest expands to make up all.
-- Assumes nothing.
use Rattle.std.specs.Prelude.{Some, None}
use Prim.Native.Nat.{ℕ, ◌+◌, ◌*◌, ◌≤◌, ◌<◌}
use mathlib.Core.Path.{◌≡◌, refl, ap, ◌∙◌}
use mathlib.Core.Bool.{Bool, true, false, cond}
use mathlib.Core.List.{List}
use native.Mathlib.Omega.{arith}
use lib.ListN.{length, drop}
use Rattle.bigendian.specs.BigEndian.{u32_at}
use Rattle.lists.specs.Lists.{sum, expand}
use Rattle.lists.proofs.Laws.{sum_run}
use Rattle.runs.specs.Runs.{runs_in}
use Rattle.runs.proofs.Turns.{spread_none, spread_next}

pub adds_next : (t : List ℕ) (total all : ℕ) {n v : ℕ} → 8 ≤ length t → n ≡ u32_at t 0 → v ≡ u32_at t 4 → total + sum (expand (runs_in t)) ≡ all →
    total + n * v + sum (expand (runs_in (drop 8 t))) ≡ all
adds_next t total all {n} {v} h p q a = omega (arith, ap sum (spread_next t h p q) ∙ sum_run v (expand (runs_in (drop 8 t))) n)

pub adds_end : (t : List ℕ) (total all : ℕ) → length t < 8 → total + sum (expand (runs_in t)) ≡ all → total ≡ all
adds_end t total all h a = omega (arith, ap sum (spread_none t h))

-- a sum beside whether it stands
pub total_where : {b : Bool} {n m : ℕ} → b ≡ true → n ≡ m → Some n ≡ cond b (Some m) None
total_where e f = rw (e, f)

pub total_unless : {b : Bool} (m : ℕ) → b ≡ false → None ≡ cond b (Some m) None
total_unless m e = rw e

pub total_told : (b : Bool) {n m : ℕ} → Some n ≡ cond b (Some m) None → (b ≡ true) × (n ≡ m)
total_told true e = (refl, cc)
total_told false e = let z : ◌≡◌ {A = ℕ} 0 1 = cc in absurd (omega arith)

pub total_untold : (b : Bool) (m : ℕ) → None ≡ cond b (Some m) None → b ≡ false
total_untold true m e = let z : ◌≡◌ {A = ℕ} 0 1 = cc in absurd (omega arith)
total_untold false m e = refl
