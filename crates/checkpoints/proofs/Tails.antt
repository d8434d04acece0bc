-- What lies past the first e runs: sums, widths and entries of all runs, from those of the rest.
-- Assumes nothing.
use Rattle.std.proofs.Common.{◌≡◌, ℕ, zero, suc, ◌+◌, ◌-◌, ◌*◌, ◌^◌, ◌<◌, ◌≤◌, List, [], ◌∷◌, ◌++◌, length, get_or, take, drop, sym, refl, ap, ◌∙◌, append_assoc, zero-add, arith, length-append, take-append-drop, get_or-drop, get_or-append-add}
use lib.Seq.{take-append_seam, drop-append_seam}
use Rattle.lists.specs.Lists.{sum, before, Run, expand}
use Rattle.lists.proofs.Laws.{sum_append, length_run, sum_run, Walk, Ahead, walk_start, walk_past}
use Rattle.lists.proofs.Places.{before_drop}
use Rattle.runs.proofs.Entries.{Passed, passed_none, passed_next}
use Rattle.checkpoints.specs.Points.{no_sums, sums_before, point_numbers, CountsAt, TotalsAt}
use Rattle.checkpoints.proofs.Adding.{point_at, runs_count, runs_total}

expand_append : (xs ys : List Run) → expand (xs ++ ys) ≡ expand xs ++ expand ys
expand_append [] ys = refl
expand_append (x ∷ xs) ys = rw (expand_append xs ys, append_assoc)

module _ (rs : List Run) (e : ℕ) where
  pub expand_split : expand rs ≡ expand (take e rs) ++ expand (drop e rs)
  expand_split = ap expand (sym (take-append-drop e rs)) ∙ expand_append (take e rs) (drop e rs)

  pub count_few : length (expand (take e rs)) ≤ length (expand rs)
  count_few = omega (arith, ap length expand_split, length-append (expand (take e rs)) (expand (drop e rs)))

  pub total_few : sum (expand (take e rs)) ≤ sum (expand rs)
  total_few = omega (arith, ap sum expand_split, sum_append (expand (take e rs)) (expand (drop e rs)))

  -- the number of an index past them, and the sum before it
  module _ (c k : ℕ) (q : c ≡ length (expand (take e rs))) (h : c ≤ k) where
    pub value_past : get_or (expand rs) k 0 ≡ get_or (expand (drop e rs)) (k - c) 0
    value_past =
        let z : k ≡ length (expand (take e rs)) + (k - c) = omega arith in
        ap (λ (j : ℕ). get_or (expand rs) j 0) z
        ∙ ap (λ (l : List ℕ). get_or l (length (expand (take e rs)) + (k - c)) 0) expand_split
        ∙ get_or-append-add (expand (take e rs)) (expand (drop e rs)) (k - c) 0

    pub before_past : before (expand rs) k ≡ sum (expand (take e rs)) + before (expand (drop e rs)) (k - c)
    before_past =
        let n = length (expand (take e rs)) in
        let z : n + (k - c) ≡ k = omega arith in
        let a : take n (expand rs) ≡ expand (take e rs) = ap (take n) expand_split ∙ take-append_seam (expand (take e rs)) (expand (drop e rs)) in
        let b : drop n (expand rs) ≡ expand (drop e rs) = ap (drop n) expand_split ∙ drop-append_seam (expand (take e rs)) (expand (drop e rs)) in
        omega (arith, before_drop (expand rs) n (k - c), ap sum a, ap (λ (l : List ℕ). before l (k - c)) b, ap (before (expand rs)) z)

-- a walk past the first e runs
walk_runs : (e : ℕ) (rs : List Run) (ds : List ℕ) (t p l : ℕ) → Walk ds (expand rs) t p l → sum (expand (take e rs)) ≤ l
    → Walk ds (expand (drop e rs)) t (p + length (expand (take e rs))) (l - sum (expand (take e rs)))
walk_runs zero rs ds t p l w h =
    let a : p ≡ p + 0 = omega arith in
    let b : l ≡ l - 0 = omega arith in
    rw (← a, ← b) w
walk_runs (suc e) [] ds t p l w h =
    let a : p ≡ p + 0 = omega arith in
    let b : l ≡ l - 0 = omega arith in
    rw (← a, ← b) w
walk_runs (suc e) (r ∷ rs) ds t p l w h =
    let m = length_run r.value (expand (take e rs)) r.count in
    let s = sum_run r.value (expand (take e rs)) r.count in
    let g = walk_runs e rs ds t (p + r.count) (l - r.count * r.value) (walk_past (record { walk = w }) (omega arith)) (omega arith) in
    let a : p + r.count + length (expand (take e rs)) ≡ p + length (expand (take (suc e) (r ∷ rs))) = omega arith in
    let b : l - r.count * r.value - sum (expand (take e rs)) ≡ l - sum (expand (take (suc e) (r ∷ rs))) = omega arith in
    rw (← a, ← b) g

pub walk_from : (rs : List Run) (e t : ℕ) → sum (expand (take e rs)) ≤ t
    → Walk (expand rs) (expand (drop e rs)) t (length (expand (take e rs))) (t - sum (expand (take e rs)))
walk_from rs e t h = rw (zero-add _) at (walk_runs e rs (expand rs) t 0 t (walk_start (expand rs) t) h)

-- the entries, of which there are e
passed_runs : (e : ℕ) (rs all : List Run) (n p : ℕ) → e ≤ length rs → Passed all rs n p → Passed all (drop e rs) (n + e) (p + length (expand (take e rs)))
passed_runs zero rs all n p h a =
    let x : n ≡ n + 0 = omega arith in
    let y : p ≡ p + 0 = omega arith in
    rw (← x, ← y) a
passed_runs (suc e) [] all n p h a = absurd (omega arith)
passed_runs (suc e) (r ∷ rs) all n p h a =
    let g = passed_runs e rs all (n + 1) (p + r.count) (omega arith) (passed_next a) in
    let x : n + 1 + e ≡ n + suc e = omega arith in
    let y : p + r.count + length (expand (take e rs)) ≡ p + length (expand (take (suc e) (r ∷ rs))) = omega (arith, length_run r.value (expand (take e rs)) r.count) in
    rw (← x, ← y) g

pub passed_from : (rs : List Run) (e : ℕ) → e ≤ length rs → Passed rs (drop e rs) e (length (expand (take e rs)))
passed_from rs e h = rw (zero-add _, zero-add _) at (passed_runs e rs rs 0 0 h (passed_none rs))

-- ---- the numbers of the checkpoints are the sums, where these are below 2 ^ 64

pub counts_at : (rs : List Run) (n : ℕ) → length (expand rs) < 2 ^ 64 → CountsAt rs (point_numbers rs n) n
unfolding sums_before
counts_at rs n h i l =
    let z : 2 * i + 0 ≡ 2 * i = omega arith in
    ap (λ (k : ℕ). get_or (point_numbers rs n) k 0) (sym z) ∙ point_at rs n i 0 l (omega arith) ∙ runs_count (take (64 * i) rs) no_sums (omega (arith, count_few rs (64 * i))) ∙ zero-add _

pub totals_at : (rs : List Run) (n : ℕ) → sum (expand rs) < 2 ^ 64 → TotalsAt rs (point_numbers rs n) n
unfolding sums_before
totals_at rs n h i l = point_at rs n i 1 l (omega arith) ∙ runs_total (take (64 * i) rs) no_sums (omega (arith, total_few rs (64 * i))) ∙ zero-add _
