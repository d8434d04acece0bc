-- What Ask 1 says in sentences: a run gets there, and no shorter one does; the feature is the greatest rate of the runs that get there, and where one of
-- them can't be computed it can't.
-- Assumes nothing.
use Rattle.std.specs.Prelude.{Option, Some, None}
use Prim.Native.Nat.{ℕ, zero, suc, ◌-◌, ◌≤◌, ◌<◌, max}
use mathlib.Core.Path.{◌≡◌, refl, ap, ◌∙◌}
use mathlib.Core.Bool.{Bool, true, false, cond}
use mathlib.Core.List.{List, [], ◌∷◌}
use native.Mathlib.Omega.{arith}
use native.Mathlib.Decide.{dec_le}
use lib.Dec.{leb}
use lib.ListN.{length, drop}
use borrow.Author.Tests.{le-leb, leb-true}
use Rattle.lists.specs.Lists.{sum, before, holder}
use Rattle.lists.proofs.Places.{before_suc, before_mono, holder_holds}
use Rattle.windows.specs.Lengths.{run_length}
use Rattle.peaks.specs.Peaks.{run_rate, higher, highest}

module _ (s : ℕ) (ds : List ℕ) (p : 0 < s) (h : s ≤ sum ds) where
  -- "whose durations total at least the time scale"
  pub run_reaches : s ≤ before ds (run_length s ds)
  run_reaches =
      let k = holder_holds ds (s - 1) (omega arith) in
      omega (arith, k.to, before_suc ds (holder ds (s - 1)))

  -- "the shortest run starting there"
  pub run_shortest : (k : ℕ) → k < run_length s ds → before ds k < s
  run_shortest k l =
      let w = holder_holds ds (s - 1) (omega arith) in
      omega (arith, w.from, before_mono ds k (holder ds (s - 1)) (omega arith))

-- ---- the greatest

drop_one : {A : Type 0} (l : List A) (i : ℕ) → drop (suc i) l ≡ drop i (drop 1 l)
drop_one [] zero = refl
drop_one [] (suc i) = refl
drop_one (x ∷ l) i = refl

-- the rate of the run that starts at the sample with index i
abbrev pub rate_at : ℕ → List ℕ → List ℕ → ℕ → Option ℕ
rate_at s ds zs i = run_rate s (run_length s (drop i ds)) (drop i ds) (drop i zs)

both : (a b : Option ℕ) (v : ℕ) → higher a b ≡ Some v → (x : ℕ) × (y : ℕ) × (a ≡ Some x) × (b ≡ Some y) × (max x y ≡ v)
both (Some x) (Some y) v e = let q : max x y ≡ v = cc in (x, y, refl, refl, q)
both (Some x) None v e = let z : ◌≡◌ {A = ℕ} 0 1 = cc in absurd (omega arith)
both None b v e = let z : ◌≡◌ {A = ℕ} 0 1 = cc in absurd (omega arith)

-- "18 .. judged for any run", and "the feature is the greatest": where it is v, each run that gets there can be computed, and is at most v
pub at_most : (s : ℕ) (ds zs : List ℕ) (v : ℕ) → highest s ds zs ≡ Some v → (i : ℕ) → i < length ds → s ≤ sum (drop i ds)
    → (x : ℕ) × (rate_at s ds zs i ≡ Some x) × (x ≤ v)
at_most s [] zs v e i l h = absurd (omega arith)
at_most s (d ∷ ds) zs v e zero l h =
    let r = both (rate_at s (d ∷ ds) zs 0) (highest s ds (drop 1 zs)) v (rw (le-leb s (sum (d ∷ ds)) h) at e) in
    (r.0, r.2, omega (arith, r.4))
at_most s (d ∷ ds) zs v e (suc i) l h = go (leb s (sum (d ∷ ds))) e (λ y f. at_most s ds (drop 1 zs) y f i (omega arith) h)
  where
    IH : Type 0
    IH = (y : ℕ) → highest s ds (drop 1 zs) ≡ Some y → (x : ℕ) × (rate_at s ds (drop 1 zs) i ≡ Some x) × (x ≤ y)

    shift : (x : ℕ) × (rate_at s ds (drop 1 zs) i ≡ Some x) × (x ≤ v) → (x : ℕ) × (rate_at s (d ∷ ds) zs (suc i) ≡ Some x) × (x ≤ v)
    shift r = (r.0, ap (run_rate s (run_length s (drop i ds)) (drop i ds)) (drop_one zs i) ∙ r.1, r.2)

    go : (b : Bool) → cond b (higher (rate_at s (d ∷ ds) zs 0) (highest s ds (drop 1 zs))) (highest s ds (drop 1 zs)) ≡ Some v → IH
        → (x : ℕ) × (rate_at s (d ∷ ds) zs (suc i) ≡ Some x) × (x ≤ v)
    go true f ih =
        let r = both (rate_at s (d ∷ ds) zs 0) (highest s ds (drop 1 zs)) v f in
        let t = ih r.1 r.3 in
        shift (t.0, t.1, omega (arith, t.2, r.4))
    go false f ih = shift (ih v f)

-- and where that is above 0, a run that gets there has just that rate
pub attained : (s : ℕ) (ds zs : List ℕ) (v : ℕ) → highest s ds zs ≡ Some v → 0 < v → (i : ℕ) × (i < length ds) × (s ≤ sum (drop i ds)) × (rate_at s ds zs i ≡ Some v)
attained s [] zs v e p = let z : 0 ≡ v = cc in absurd (omega arith)
attained s (d ∷ ds) zs v e p = go (leb s (sum (d ∷ ds))) refl e (λ f. attained s ds (drop 1 zs) v f p)
  where
    IH : Type 0
    IH = highest s ds (drop 1 zs) ≡ Some v → (i : ℕ) × (i < length ds) × (s ≤ sum (drop i ds)) × (rate_at s ds (drop 1 zs) i ≡ Some v)

    Attains : Type 0
    Attains = (i : ℕ) × (i < length (d ∷ ds)) × (s ≤ sum (drop i (d ∷ ds))) × (rate_at s (d ∷ ds) zs i ≡ Some v)

    later : (i : ℕ) × (i < length ds) × (s ≤ sum (drop i ds)) × (rate_at s ds (drop 1 zs) i ≡ Some v) → Attains
    later r = (suc r.0, omega (arith, r.1), r.2, ap (run_rate s (run_length s (drop r.0 ds)) (drop r.0 ds)) (drop_one zs r.0) ∙ r.3)

    go : (b : Bool) → leb s (sum (d ∷ ds)) ≡ b → cond b (higher (rate_at s (d ∷ ds) zs 0) (highest s ds (drop 1 zs))) (highest s ds (drop 1 zs)) ≡ Some v → IH → Attains
    go true q f ih =
        let r = both (rate_at s (d ∷ ds) zs 0) (highest s ds (drop 1 zs)) v f in
        elim (dec_le v r.0) [
          | yes l ↦ let w : r.0 ≡ v = omega (arith, r.4) in (0, omega arith, leb-true s (sum (d ∷ ds)) q, r.2 ∙ ap Some w)
          | no l ↦ let w : r.1 ≡ v = omega (arith, r.4) in later (ih (r.3 ∙ ap Some w))
        ]
    go false q f ih = later (ih f)
