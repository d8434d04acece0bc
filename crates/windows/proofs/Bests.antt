-- Laws of the better of two runs: it may be taken in any grouping, of a run with itself it is that run, and none takes nothing away.
-- Assumes nothing.
use Rattle.std.specs.Prelude.{Option, Some, None}
use Prim.Native.Nat.{ℕ, ◌*◌, ◌≤◌, ◌<◌}
use mathlib.Core.Path.{◌≡◌, refl, sym, ap, ◌∙◌}
use mathlib.Core.Bool.{true, false}
use mathlib.Core.List.{List}
use native.Mathlib.Omega.{arith}
use native.Mathlib.Decide.{dec_lt}
use borrow.Author.Tests.{lt-ltb, le-ltb, leb-true, leb-false, ltb-false, eqb-true}
use lib.Dec.{ltb, leb, eqb}
use Rattle.bigendian.specs.BigEndian.{u32_at}
use Rattle.lists.proofs.Booleans.{cond_unless, and_both}
use Rattle.rates.specs.Rates.{rate_of}
use Rattle.rates.proofs.Orders.{eightfold, no-higher}
use Rattle.windows.specs.declared.RatedRun.{RatedRun}
use Rattle.windows.specs.Windows.{rated_as, rated_run, better, no_run, no_higher, no_higher_run, are_single}

-- what the comparison says where it tells
pub no_higher_known : (bytes span : ℕ) (other : RatedRun) → no_higher bytes span other ≡ true → bytes * other.span ≤ other.bytes * span
unfolding no_higher
no_higher_known bytes span other e =
    leb-true _ _ (cond_unless (ltb 4294967295 other.bytes) _ (cond_unless (ltb 4294967295 bytes) _ e).1).1

-- what an answer that is true says of a window, and of two entries
pub no_higher_run_known : (rest span bytes s : ℕ) (other : RatedRun) → no_higher_run rest span bytes s other ≡ true
    → (rest < s) × (s ≤ span) × (bytes * other.span ≤ other.bytes * span)
unfolding no_higher_run
no_higher_run_known rest span bytes s other e =
    let a = cond_unless (leb s rest) _ e in
    let b = cond_unless (ltb span s) _ a.1 in
    (leb-false _ _ a.0, ltb-false _ _ b.0, no_higher_known bytes span other b.1)

pub single_known : (a b : List ℕ) → are_single a b ≡ true → (u32_at a 0 ≡ 1) × (u32_at b 0 ≡ 1)
unfolding are_single
single_known a b e = let t = and_both (eqb (u32_at a 0) 1) (eqb (u32_at b 0) 1) e in (eqb-true _ _ t.0, eqb-true _ _ t.1)

-- what a test that failed says of an answer that is true
pub untrue : {A : Type 0} → false ≡ true → A
untrue e = let z : ◌≡◌ {A = ℕ} 0 1 = cc in absurd (omega arith)

pub better_second : (a b : RatedRun) → a.rate < b.rate → better (Some a) (Some b) ≡ Some b
better_second a b h = rw (lt-ltb a.rate b.rate h)

pub better_first : (a b : RatedRun) → b.rate ≤ a.rate → better (Some a) (Some b) ≡ Some a
better_first a b h = rw (le-ltb a.rate b.rate h)

pub better_assoc : (x y z : Option RatedRun) → better (better x y) z ≡ better x (better y z)
better_assoc (Some a) (Some b) (Some c) = elim (dec_lt a.rate b.rate) [
  | yes l ↦ elim (dec_lt b.rate c.rate) [
    | yes k ↦ let m : a.rate < c.rate = omega arith in rw (lt-ltb a.rate b.rate l, lt-ltb b.rate c.rate k, lt-ltb a.rate c.rate m)
    | no k ↦ let m : c.rate ≤ b.rate = omega arith in rw (lt-ltb a.rate b.rate l, le-ltb b.rate c.rate m, lt-ltb a.rate b.rate l)
  ]
  | no l ↦
      let n : b.rate ≤ a.rate = omega arith in
      elim (dec_lt b.rate c.rate) [
        | yes k ↦ rw (le-ltb a.rate b.rate n, lt-ltb b.rate c.rate k)
        | no k ↦
            let m : c.rate ≤ b.rate = omega arith in
            let o : c.rate ≤ a.rate = omega arith in
            rw (le-ltb a.rate b.rate n, le-ltb b.rate c.rate m, le-ltb a.rate c.rate o, le-ltb a.rate b.rate n)
      ]
]
better_assoc (Some a) (Some b) None = uncomputed (better (Some a) (Some b))
  where
    uncomputed : (x : Option RatedRun) → better x None ≡ None
    uncomputed (Some x) = refl
    uncomputed None = refl
better_assoc (Some a) None z = refl
better_assoc None y z = refl

pub better_same : (x : Option RatedRun) → better x x ≡ x
better_same (Some a) = better_first a a (omega arith)
better_same None = refl

pub better_none : (x : Option RatedRun) → better x no_run ≡ x
better_none (Some a) = rw (le-ltb a.rate 0 (omega arith))
better_none None = refl

-- a run taken twice counts once
pub better_again : (x y : Option RatedRun) → better x (better x y) ≡ better x y
better_again x y = sym (better_assoc x x y) ∙ ap (λ (z : Option RatedRun). better z y) (better_same x)

-- a run that, by cross-multiplication, is no higher than the best so far leaves it as it is
pub better_kept : (s : ℕ) (b : RatedRun) (i n bytes span : ℕ) → rate_of (8 * b.bytes * s) b.span ≡ Some b.rate → 0 < span → span < 4294967296
    → bytes * b.span ≤ b.bytes * span → better (Some b) (rated_run s i n bytes span) ≡ Some b
better_kept s b i n bytes span r p l h =
    let x = no-higher (8 * s) bytes span b.bytes b.span b.rate p l h (rw (eightfold b.bytes s) r) in
    let e : rate_of (8 * bytes * s) span ≡ Some x.rate = rw (eightfold bytes s) at x.computed in
    ap (λ (f : Option ℕ). better (Some b) (rated_as f i n bytes span)) e ∙ better_first b _ x.low
