-- What runs come to, added one after the other; the numbers of checkpoints by their index; and that nothing is lost where the sums are below 2 ^ 64.
-- Assumes nothing.
use Rattle.std.proofs.Common.{◌≡◌, ℕ, zero, suc, ◌+◌, ◌-◌, ◌*◌, ◌%◌, ◌^◌, ◌<◌, ◌≤◌, List, [], ◌∷◌, ◌++◌, map, length, get_or, take, drop, set, sym, refl, ap, ◌∙◌, mod-eq_of_lt, zero-add, arith, lit<, length-append, drop-drop, get_or-append-add, take-add}
use native.Mathlib.Decide.{dec_lt}
use lib.ListN.{get_or-append}
use lib.Seq.{sets, length-sets, drop-nil}
use Rattle.bigendian.specs.BigEndian.{u32_at}
use Rattle.lists.specs.Lists.{sum, Run, expand}
use Rattle.lists.specs.Entries.{rows_of}
use Rattle.lists.proofs.Laws.{length_run, sum_run}
use Rattle.lists.proofs.Cuts.{rows_drop}
use Rattle.lists.proofs.Stores.{sets_append}
use Rattle.runs.specs.Runs.{run_of, runs_in, runs_of}
use Rattle.runs.proofs.Turns.{runs-in, runs_none, runs_next}
use Rattle.checkpoints.specs.Points.{no_sums, with_run, with_runs, sums_before, point_numbers, CountsAt, TotalsAt}
use Rattle.checkpoints.specs.declared.Sums.{Sums}

-- ---- the runs of a part, one after the other

-- n runs are still to be added, and the first of them is
pub add_run : (n : ℕ) (r : Run) (rs : List Run) (a : Sums) → 0 < n → with_runs (take (n - 1) rs) (with_run r a) ≡ with_runs (take n (r ∷ rs)) a
add_run zero r rs a h = absurd (omega arith)
add_run (suc n) r rs a h = let e : suc n - 1 ≡ n = omega arith in rw e

pub add_none : (n : ℕ) (a : Sums) → with_runs (take n []) a ≡ a
add_none zero a = refl
add_none (suc n) a = refl

-- the first run of a part, as the code has it
pub add_next : (s : List ℕ) (i count value : ℕ) (a b : Sums) → i < 64 → 8 ≤ length s → count ≡ u32_at s 0 → value ≡ u32_at s 4 → b ≡ with_run (record { count = count; value = value }) a
    → with_runs (take (64 - (i + 1)) (runs_in (drop 8 s))) b ≡ with_runs (take (64 - i) (runs_in s)) a
add_next s i count value a b h l p q e =
    let z : 64 - (i + 1) ≡ 64 - i - 1 = omega arith in
    let o : runs_in s ≡ record { count = count; value = value } ∷ runs_in (drop 8 s) = rw (p, q) (runs_next s l) in
    rw (z, e, o) (add_run (64 - i) _ (runs_in (drop 8 s)) a (omega arith))

add_append : (xs ys : List Run) (a : Sums) → with_runs (xs ++ ys) a ≡ with_runs ys (with_runs xs a)
add_append [] ys a = refl
add_append (x ∷ xs) ys a = add_append xs ys (with_run x a)

-- 64 runs more
pub sums_next : (rs : List Run) (i : ℕ) (a : Sums) → a ≡ sums_before rs (64 * i) → with_runs (take 64 (drop (64 * i) rs)) a ≡ sums_before rs (64 * (i + 1))
unfolding sums_before
sums_next rs i a e =
    let z : 64 * (i + 1) ≡ 64 * i + 64 = omega arith in
    ap (with_runs (take 64 (drop (64 * i) rs))) e
    ∙ sym (add_append (take (64 * i) rs) (take 64 (drop (64 * i) rs)) no_sums)
    ∙ ap (λ (l : List Run). with_runs l no_sums) (sym (take-add (64 * i) 64 rs))
    ∙ ap (λ (n : ℕ). with_runs (take n rs) no_sums) (sym z)

-- ---- the runs of a table from the 64 times ith on

pub map_drop : {A B : Type 0} (f : A → B) (n : ℕ) (l : List A) → map f (drop n l) ≡ drop n (map f l)
map_drop f zero l = refl
map_drop f (suc n) [] = refl
map_drop f (suc n) (x ∷ l) = map_drop f n l

pub runs_tail : (s : List ℕ) (k : ℕ) → runs_in (drop (k * 8) s) ≡ drop k (runs_in s)
unfolding runs_in
runs_tail s k = ap (map run_of) (rows_drop 8 (lit< tt) k s) ∙ map_drop run_of k (rows_of 8 s)

pub runs_from : (s : List ℕ) (i : ℕ) → runs_in (drop (16 + 512 * i) s) ≡ drop (64 * i) (runs_of s)
runs_from s i =
    let z : 16 + 512 * i ≡ 16 + 64 * i * 8 = omega arith in
    ap (λ (n : ℕ). runs_in (drop n s)) z ∙ ap runs_in (sym (drop-drop (64 * i * 8) 16 s)) ∙ runs_tail (drop 16 s) (64 * i) ∙ ap (drop (64 * i)) (sym (runs-in s))

-- ---- the numbers of checkpoints

pub points_length : (rs : List Run) (n : ℕ) → length (point_numbers rs n) ≡ 2 * n
points_length rs zero = refl
points_length rs (suc n) = omega (arith, length-append (point_numbers rs n) ((sums_before rs (64 * n)).count ∷ (sums_before rs (64 * n)).total ∷ []), points_length rs n)

pub point_at : (rs : List Run) (n i j : ℕ) → i < n → j < 2 → get_or (point_numbers rs n) (2 * i + j) 0 ≡ get_or ((sums_before rs (64 * i)).count ∷ (sums_before rs (64 * i)).total ∷ []) j 0
point_at rs zero i j h l = absurd (omega arith)
point_at rs (suc n) i j h l =
    let two = (sums_before rs (64 * n)).count ∷ (sums_before rs (64 * n)).total ∷ [] in
    elim (dec_lt i n) [
      | yes q ↦ get_or-append (point_numbers rs n) two 0 (2 * i + j) (omega (arith, points_length rs n)) ∙ point_at rs n i j q l
      | no q ↦
          let e : i ≡ n = omega arith in
          let z : 2 * i + j ≡ length (point_numbers rs n) + j = omega (arith, points_length rs n) in
          ap (λ (k : ℕ). get_or (point_numbers rs n ++ two) k 0) z
          ∙ get_or-append-add (point_numbers rs n) two j 0
          ∙ ap (λ (k : ℕ). get_or ((sums_before rs (64 * k)).count ∷ (sums_before rs (64 * k)).total ∷ []) j 0) (sym e)
    ]

-- one checkpoint more in the room
pub put_next : (rs : List Run) (room new : List ℕ) (i : ℕ) (a : Sums) → a ≡ sums_before rs (64 * i) → new ≡ sets room 0 (point_numbers rs i)
    → set (set new (2 * i) a.count) (2 * i + 1) a.total ≡ sets room 0 (point_numbers rs (i + 1))
put_next rs room new i a e f =
    let z : i + 1 ≡ suc i = omega arith in
    let y : 2 * i + 1 ≡ suc (2 * i) = omega arith in
    let w : 0 + length (point_numbers rs i) ≡ 2 * i = omega (arith, points_length rs i) in
    rw (z, sets_append room 0 (point_numbers rs i) ((sums_before rs (64 * i)).count ∷ (sums_before rs (64 * i)).total ∷ []), w, ← f, y, e)

-- ---- where the sums are below 2 ^ 64

pub runs_count : (rs : List Run) (a : Sums) → a.count + length (expand rs) < 2 ^ 64 → (with_runs rs a).count ≡ a.count + length (expand rs)
runs_count [] a h = omega arith
runs_count (r ∷ rs) a h =
    let l = length_run r.value (expand rs) r.count in
    let e : (a.count + r.count) % 2 ^ 64 ≡ a.count + r.count = mod-eq_of_lt (omega arith) in
    omega (arith, runs_count rs (with_run r a) (omega arith), e, l)

pub runs_total : (rs : List Run) (a : Sums) → a.total + sum (expand rs) < 2 ^ 64 → (with_runs rs a).total ≡ a.total + sum (expand rs)
runs_total [] a h = omega arith
runs_total (r ∷ rs) a h =
    let l = sum_run r.value (expand rs) r.count in
    let e : (a.total + r.count * r.value) % 2 ^ 64 ≡ a.total + r.count * r.value = mod-eq_of_lt (omega arith) in
    omega (arith, runs_total rs (with_run r a) (omega arith), e, l)
