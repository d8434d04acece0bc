-- The best run, by the better of two run after run, is the first whose rate is the greatest; so the pass finds the rate and the place that are defined.
-- Assumes nothing.
use Rattle.std.specs.Prelude.{Option, Some, None}
use Prim.Native.Nat.{ℕ, suc, ◌+◌, ◌*◌, ◌≤◌, ◌<◌, max}
use mathlib.Core.Path.{◌≡◌, refl, sym, ap, subst, ◌∙◌}
use mathlib.Core.Bool.{Bool, true, false, cond}
use mathlib.Core.List.{List, [], ◌∷◌}
use native.Mathlib.Omega.{arith}
use native.Mathlib.Decide.{dec_lt}
use lib.Dec.{ltb}
use lib.ListN.{length, drop}
use borrow.Author.Tests.{lt-ltb, le-ltb, le-leb, lt-leb, eq-eqb, ne_eqb}
use Rattle.lists.specs.Lists.{sum}
use Rattle.rates.specs.Rates.{rate_of}
use Rattle.windows.specs.Lengths.{run_length}
use Rattle.peaks.specs.Peaks.{run_rate, higher, highest, peak_of, first_at, placed, peak_in, rate_in}
use Rattle.windows.specs.declared.RatedRun.{RatedRun}
use Rattle.windows.specs.Windows.{rated_as, better, no_run, best_from, best_of}
use Rattle.peaks.specs.Slides.{to_peak}
use Rattle.windows.proofs.Sliding.{best_none}

-- the rate of a best run
abbrev pub best_rate : Option RatedRun → Option ℕ
best_rate (Some b) = Some b.rate
best_rate None = None

-- x is the best of the runs of these samples, the first one's index being i
pub record BestIs (s i : ℕ) (ds zs : List ℕ) (x : Option RatedRun) : Type 0 where
  pub rate : highest s ds zs ≡ best_rate x
  pub place : s ≤ sum ds → (b : RatedRun) → x ≡ Some b → (b.first ≡ suc (i + first_at s b.rate ds zs)) × (b.count ≡ run_length s (drop (first_at s b.rate ds zs) ds))

-- one run more before the others
module _ (s i d : ℕ) (ds zs : List ℕ) (h : s ≤ d + sum ds) where
  abbrev n : ℕ
  n = run_length s (d ∷ ds)

  one_before : (f : Option ℕ) (bytes span : ℕ) (x : Option RatedRun) → run_rate s n (d ∷ ds) zs ≡ f → best_from s (suc i) ds (drop 1 zs) ≡ x → BestIs s (suc i) ds (drop 1 zs) x
      → BestIs s i (d ∷ ds) zs (better (rated_as f i n bytes span) x)
  one_before None bytes span x e q r = record {
    rate = rw (le-leb s (d + sum ds) h, e);
    place = λ l b g. let z : ◌≡◌ {A = ℕ} 0 1 = cc in absurd (omega arith);
  }
  one_before (Some p) bytes span None e q r = record {
    rate = rw (le-leb s (d + sum ds) h, e, r.rate);
    place = λ l b g. let z : ◌≡◌ {A = ℕ} 0 1 = cc in absurd (omega arith);
  }
  one_before (Some p) bytes span (Some y) e q r = elim (dec_lt p y.rate) [
    | yes l ↦ rw (lt-ltb p y.rate l) (record {
      rate =
          let m : max p y.rate ≡ y.rate = omega arith in
          rw (le-leb s (d + sum ds) h, e, r.rate) (ap Some m);
      place = λ k b g. later l b g;
    })
    | no l ↦
        let w : y.rate ≤ p = omega arith in
        rw (le-ltb p y.rate w) (record {
          rate =
              let m : max p y.rate ≡ p = omega arith in
              rw (le-leb s (d + sum ds) h, e, r.rate) (ap Some m);
          place = λ k b g. first b g;
        })
  ]
    where
      -- a later run that is higher is one that gets there
      reached : p < y.rate → s ≤ sum ds
      reached l = elim (dec_lt (sum ds) s) [
        | yes k ↦
            let z : Some y ≡ no_run = sym q ∙ best_none s (suc i) ds (drop 1 zs) k in
            let v : y.rate ≡ 0 = cc in
            absurd (omega arith)
        | no k ↦ omega arith
      ]

      first : (b : RatedRun) → Some (record { rate = p; first = i + 1; count = n; bytes = bytes; span = span }) ≡ Some b
          → (b.first ≡ suc (i + first_at s b.rate (d ∷ ds) zs)) × (b.count ≡ run_length s (drop (first_at s b.rate (d ∷ ds) zs) (d ∷ ds)))
      first b g =
          let k : record { rate = p; first = i + 1; count = n; bytes = bytes; span = span } ≡ b = cc in
          rw (← k, e, eq-eqb p p refl) (omega arith, refl)

      later : p < y.rate → (b : RatedRun) → Some y ≡ Some b
          → (b.first ≡ suc (i + first_at s b.rate (d ∷ ds) zs)) × (b.count ≡ run_length s (drop (first_at s b.rate (d ∷ ds) zs) (d ∷ ds)))
      later l b g =
          let k : y ≡ b = cc in
          let m : s ≤ sum ds = reached l in
          let u = r.place m y refl in
          subst
          (λ (x : RatedRun). (x.first ≡ suc (i + first_at s x.rate (d ∷ ds) zs)) × (x.count ≡ run_length s (drop (first_at s x.rate (d ∷ ds) zs) (d ∷ ds))))
          k
          (rw (e, ne_eqb p y.rate (λ z. omega arith)) (omega (arith, u.0), u.1))

is_best : (s i : ℕ) (ds zs : List ℕ) → 0 < s → BestIs s i ds zs (best_from s i ds zs)
is_best s i [] zs p = record { rate = refl; place = λ l b g. absurd (omega arith) }
is_best s i (d ∷ ds) zs p = elim (dec_lt (d + sum ds) s) [
  | no l ↦
      let h : s ≤ d + sum ds = omega arith in
      rw (le-leb s (d + sum ds) h) (one_before s i d ds zs h _ _ _ _ refl refl (is_best s (suc i) ds (drop 1 zs) p))
  | yes l ↦ rw (lt-leb s (d + sum ds) l) (record {
    rate = rw (lt-leb s (d + sum ds) l) (is_best s (suc i) ds (drop 1 zs) p).rate;
    place = λ k b g. absurd (omega arith);
  })
]

pub best_placed : (s : ℕ) (ds zs : List ℕ) → 0 < s → to_peak (best_of s ds zs) ≡ peak_in s ds zs
unfolding best_of peak_of peak_in
best_placed s ds zs p = elim (dec_lt (sum ds) s) [
  | yes l ↦ rw (lt-ltb (sum ds) s l) (whole l (rate_of (8 * sum zs * s) (sum ds)) (sum zs) (sum ds))
  | no l ↦
      let h : s ≤ sum ds = omega arith in
      let q = is_best s 0 ds zs p in
      rw (le-ltb (sum ds) s h) (best_run h _ q ∙ ap (placed s ds zs) (sym q.rate))
]
  where
    whole : sum ds < s → (f : Option ℕ) (bytes span : ℕ) → to_peak (rated_as f 0 (length ds) bytes span) ≡ placed s ds zs f
    whole l (Some v) bytes span = rw (lt-ltb (sum ds) s l)
    whole l None bytes span = refl

    best_run : s ≤ sum ds → (x : Option RatedRun) → BestIs s 0 ds zs x → to_peak x ≡ placed s ds zs (best_rate x)
    best_run h (Some b) q =
        let u = q.place h b refl in
        let e : b.first ≡ suc (first_at s b.rate ds zs) = omega (arith, u.0) in
        rw (le-ltb (sum ds) s h, e, u.1)
    best_run h None q = refl

-- the rate of the peak is the feature
pub peak_rate : (s : ℕ) (ds zs : List ℕ) → rate_in (peak_in s ds zs) ≡ peak_of s ds zs
unfolding peak_in
peak_rate s ds zs = of_rate (peak_of s ds zs)
  where
    either : (b : Bool) (v i j m n : ℕ) → rate_in (cond b (Some (record { rate = v; first = i; count = m })) (Some (record { rate = v; first = j; count = n }))) ≡ Some v
    either true v i j m n = refl
    either false v i j m n = refl

    of_rate : (f : Option ℕ) → rate_in (placed s ds zs f) ≡ f
    of_rate (Some v) = either (ltb (sum ds) s) v _ _ _ _
    of_rate None = refl
