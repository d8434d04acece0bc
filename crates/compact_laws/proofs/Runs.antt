-- Runs closed up: the same samples, the fewest runs, once for all; and the entries of an stts are closed up so.
-- Assumes nothing.
use Prim.Native.Nat.{ℕ, zero, suc, ◌+◌, ◌≤◌, ◌<◌}
use mathlib.Core.Path.{◌≡◌, refl, sym, ap, ◌∙◌}
use mathlib.Core.Bool.{Bool, true, false, cond, not}
use mathlib.Core.List.{List, [], ◌∷◌, ◌++◌, map}
use native.Mathlib.Omega.{arith}
use lib.ListN.{length, take, drop, replicate, length-append, length-replicate}
use lib.Dec.{eqb}
use borrow.Author.Tests.{eqb-true, eqb-false, eq-eqb, ne_eqb, not-false}
use native.Mathlib.Nat.{pos_of_ne-zero}
use Rattle.lists.proofs.Booleans.{or_left, or_right, or_both, or_neither}
use Rattle.track.specs.Refusals.{any_empty, miscounted}
use Rattle.lists.specs.Lists.{Run, expand}
use Rattle.bigendian.specs.BigEndian.{u32_at}
use Rattle.bigendian.proofs.Laws.{be_at_take, be_at_drop}
use Rattle.lists.specs.Entries.{entries}
use Rattle.runs.specs.Runs.{run_of, runs_of, per_sample}
use Rattle.atoms.specs.Kinds.{stts}
use Rattle.atoms.specs.Atoms.{kind_of}
use Rattle.compact_entries.specs.Entries.{with_count, runs_from, compact_runs}
use Rattle.compact_tables.specs.Tables.{compact_table}
use Rattle.compact_tables.proofs.Tables.{table_runs}
use Rattle.compact_entries.proofs.Widths.{Wide, rows_wide, runs_wide}
use Rattle.compact_laws.proofs.Numbers.{read_written}
use Rattle.compact_laws.proofs.Stbl.{past_number, written_entries}

-- ---- runs, neighbours of one value joined

abbrev pub merge_from : Run → List Run → List Run
merge_from r [] = r ∷ []
merge_from r (x ∷ xs) = cond (eqb r.value x.value) (merge_from (record { count = r.count + x.count; value = r.value }) xs) (r ∷ merge_from x xs)

abbrev pub closed_runs : List Run → List Run
closed_runs [] = []
closed_runs (r ∷ rs) = merge_from r rs

-- each has a sample
abbrev pub AllSome : List Run → Type 0
AllSome [] = Unit {0}
AllSome (r ∷ rs) = (0 < r.count) × AllSome rs

replicate_add : (m n v : ℕ) (l : List ℕ) → replicate (m + n) v ++ l ≡ replicate m v ++ (replicate n v ++ l)
replicate_add zero n v l = let e : 0 + n ≡ n = omega arith in ap (λ (k : ℕ). replicate k v ++ l) e
replicate_add (suc m) n v l = let e : suc m + n ≡ suc (m + n) = omega arith in ap (λ (k : ℕ). replicate k v ++ l) e ∙ ap (λ x. v ∷ x) (replicate_add m n v l)

-- ---- the same samples

pub merge_same : (r : Run) (rs : List Run) → expand (merge_from r rs) ≡ replicate r.count r.value ++ expand rs
merge_same r [] = refl
merge_same r (x ∷ xs) = go (eqb r.value x.value) refl (merge_same (record { count = r.count + x.count; value = r.value }) xs) (merge_same x xs)
  where
    go : (b : Bool) → eqb r.value x.value ≡ b
        → expand (merge_from (record { count = r.count + x.count; value = r.value }) xs) ≡ replicate (r.count + x.count) r.value ++ expand xs
        → expand (merge_from x xs) ≡ replicate x.count x.value ++ expand xs
        → expand (cond b (merge_from (record { count = r.count + x.count; value = r.value }) xs) (r ∷ merge_from x xs)) ≡ replicate r.count r.value ++ (replicate x.count x.value ++ expand xs)
    go true q f g = f ∙ replicate_add r.count x.count r.value (expand xs) ∙ ap (λ (v : ℕ). replicate r.count r.value ++ (replicate x.count v ++ expand xs)) (eqb-true _ _ q)
    go false q f g = ap (λ l. replicate r.count r.value ++ l) g

pub closed_same : (rs : List Run) → expand (closed_runs rs) ≡ expand rs
closed_same [] = refl
closed_same (r ∷ rs) = merge_same r rs

-- ---- no shorter table

-- how often the value changes, v standing before them
abbrev turns_from : ℕ → List ℕ → ℕ
turns_from v [] = 0
turns_from v (x ∷ xs) = cond (eqb v x) (turns_from x xs) (suc (turns_from x xs))

abbrev turns : List ℕ → ℕ
turns [] = 0
turns (x ∷ xs) = suc (turns_from x xs)

by : (b : Bool) (n : ℕ) → (n ≤ cond b n (suc n)) × (cond b n (suc n) ≤ suc n)
by true n = (omega arith, omega arith)
by false n = (omega arith, omega arith)

any_start : (v x : ℕ) (l : List ℕ) → turns_from v l ≤ suc (turns_from x l)
any_start v x [] = omega arith
any_start v x (y ∷ l) = omega (arith, (by (eqb v y) (turns_from y l)).1, (by (eqb x y) (turns_from y l)).0)

run_same : (n v : ℕ) (l : List ℕ) → turns_from v (replicate n v ++ l) ≡ turns_from v l
run_same zero v l = refl
run_same (suc n) v l = rw (eq-eqb v v refl) (run_same n v l)

run_turns : (n v x : ℕ) (l : List ℕ) → turns_from v (replicate n x ++ l) ≤ suc (turns_from x l)
run_turns zero v x l = any_start v x l
run_turns (suc n) v x l = omega (arith, (by (eqb v x) (turns_from x (replicate n x ++ l))).1, run_same n x l)

run_other : (n v x : ℕ) (l : List ℕ) → 0 < n → eqb v x ≡ false → turns_from v (replicate n x ++ l) ≡ suc (turns_from x l)
run_other zero v x l h q = absurd (omega arith)
run_other (suc n) v x l h q = rw q (ap suc (run_same n x l))

from_few : (v : ℕ) (rs : List Run) → turns_from v (expand rs) ≤ length rs
from_few v [] = omega arith
from_few v (r ∷ rs) = omega (arith, run_turns r.count v r.value (expand rs), from_few r.value rs)

pub turns_few : (rs : List Run) → turns (expand rs) ≤ length rs
turns_few [] = omega arith
turns_few (r ∷ rs) = go r.count (turns_few rs)
  where
    go : (n : ℕ) → turns (expand rs) ≤ length rs → turns (replicate n r.value ++ expand rs) ≤ suc (length rs)
    go zero h = omega arith
    go (suc n) h = omega (arith, run_same n r.value (expand rs), from_few r.value rs)

merge_turns : (r : Run) (rs : List Run) → AllSome rs → length (merge_from r rs) ≡ suc (turns_from r.value (expand rs))
merge_turns r [] h = refl
merge_turns r (x ∷ xs) h = go (eqb r.value x.value) refl (merge_turns (record { count = r.count + x.count; value = r.value }) xs h.1) (merge_turns x xs h.1)
  where
    go : (b : Bool) → eqb r.value x.value ≡ b
        → length (merge_from (record { count = r.count + x.count; value = r.value }) xs) ≡ suc (turns_from r.value (expand xs))
        → length (merge_from x xs) ≡ suc (turns_from x.value (expand xs))
        → length (cond b (merge_from (record { count = r.count + x.count; value = r.value }) xs) (r ∷ merge_from x xs)) ≡ suc (turns_from r.value (replicate x.count x.value ++ expand xs))
    go true q f g = let v : r.value ≡ x.value = eqb-true r.value x.value q in f ∙ ap suc (sym (run_same x.count r.value (expand xs)) ∙ ap (λ (y : ℕ). turns_from r.value (replicate x.count y ++ expand xs)) v)
    go false q f g = ap suc (g ∙ sym (run_other x.count r.value x.value (expand xs) h.0 q))

-- "No shorter table with the same expansion exists"
pub closed_fewest : (rs qs : List Run) → AllSome rs → expand qs ≡ expand rs → length (closed_runs rs) ≤ length qs
closed_fewest [] qs h e = omega arith
closed_fewest (r ∷ rs) qs h e = go r.count refl
  where
    go : (n : ℕ) → r.count ≡ n → length (merge_from r rs) ≤ length qs
    go zero q = absurd (omega (arith, h.0))
    go (suc n) q =
        let t : turns (expand qs) ≡ suc (turns_from r.value (expand rs)) = ap turns e ∙ rw q (ap suc (run_same n r.value (expand rs))) in
        omega (arith, merge_turns r rs h.1, turns_few qs)

-- ---- closing up twice

-- no two neighbours have the same value
abbrev Apart : Run → List Run → Type 0
Apart r [] = Unit {0}
Apart r (x ∷ xs) = (eqb r.value x.value ≡ false) × Apart x xs

abbrev AllApart : List Run → Type 0
AllApart [] = Unit {0}
AllApart (r ∷ rs) = Apart r rs

apart_kept : (r : Run) (rs : List Run) → Apart r rs → merge_from r rs ≡ r ∷ rs
apart_kept r [] h = refl
apart_kept r (x ∷ xs) h = rw h.0 (ap (λ l. r ∷ l) (apart_kept x xs h.1))

-- what is merged begins with the value of its first run and has no equal neighbours
pub record Merged (v : ℕ) (l : List Run) : Type 0 where
  pub first : Run
  pub rest : List Run
  pub is : l ≡ first ∷ rest
  pub same : first.value ≡ v
  pub apart : Apart first rest

merged : (r : Run) (rs : List Run) → Merged r.value (merge_from r rs)
merged r [] = record { first = r; rest = []; is = refl; same = refl; apart = tt }
merged r (x ∷ xs) = go (eqb r.value x.value) refl (merged (record { count = r.count + x.count; value = r.value }) xs) (merged x xs)
  where
    go : (b : Bool) → eqb r.value x.value ≡ b → Merged r.value (merge_from (record { count = r.count + x.count; value = r.value }) xs) → Merged x.value (merge_from x xs)
        → Merged r.value (cond b (merge_from (record { count = r.count + x.count; value = r.value }) xs) (r ∷ merge_from x xs))
    go true q m n = m
    go false q m n = record {
      first = r;
      rest = n.first ∷ n.rest;
      is = ap (λ l. r ∷ l) n.is;
      same = refl;
      apart = (rw n.same q, n.apart);
    }

pub closed_twice : (rs : List Run) → closed_runs (closed_runs rs) ≡ closed_runs rs
closed_twice [] = refl
closed_twice (r ∷ rs) = let m = merged r rs in ap closed_runs m.is ∙ apart_kept m.first m.rest m.apart ∙ sym m.is

-- ---- the entries of an stts

-- the runs of entries, and their samples
abbrev runs_in : List (List ℕ) → List Run
runs_in es = map run_of es

value_kept : (n : ℕ) (e : List ℕ) → length e ≡ 8 → u32_at (with_count n e) 4 ≡ u32_at e 4
unfolding with_count
value_kept n e h = past_number 4 n 0 (take 4 (drop 4 e)) ∙ be_at_take 4 4 (drop 4 e) 0 (omega arith) ∙ be_at_drop 4 4 e 0

count_kept : (n : ℕ) (e : List ℕ) → n < 4294967296 → u32_at (with_count n e) 0 ≡ n
unfolding with_count
count_kept n e h = read_written n (take 4 (drop 4 e)) h

run_kept : (n : ℕ) (e : List ℕ) → n < 4294967296 → length e ≡ 8 → run_of (with_count n e) ≡ record { count = n; value = u32_at e 4 }
run_kept n e b h = λ i. record { count = count_kept n e b i; value = value_kept n e h i }

from_runs : (n : ℕ) (e : List ℕ) (es : List (List ℕ)) → length e ≡ 8 → Wide 8 es → n + length (expand (runs_in es)) < 4294967296
    → map run_of (runs_from n e es) ≡ merge_from (record { count = n; value = u32_at e 4 }) (runs_in es)
unfolding runs_from
from_runs n e [] h k b = ap (λ r. r ∷ []) (run_kept n e (omega arith) h)
from_runs n e (x ∷ xs) h k b =
    let l = length-append (replicate (u32_at x 0) (u32_at x 4)) (expand (runs_in xs)) in
    let m = length-replicate (u32_at x 0) (u32_at x 4) in
    go (eqb (u32_at e 4) (u32_at x 4)) (from_runs (n + u32_at x 0) e xs h k.1 (omega (arith, l, m, b))) (from_runs (u32_at x 0) x xs k.0 k.1 (omega (arith, l, m, b)))
  where
    go : (b : Bool) → map run_of (runs_from (n + u32_at x 0) e xs) ≡ merge_from (record { count = n + u32_at x 0; value = u32_at e 4 }) (runs_in xs)
        → map run_of (runs_from (u32_at x 0) x xs) ≡ merge_from (record { count = u32_at x 0; value = u32_at x 4 }) (runs_in xs)
        → map run_of (cond b (runs_from (n + u32_at x 0) e xs) (with_count n e ∷ runs_from (u32_at x 0) x xs))
        ≡ cond b (merge_from (record { count = n + u32_at x 0; value = u32_at e 4 }) (runs_in xs)) (record { count = n; value = u32_at e 4 } ∷ merge_from (record { count = u32_at x 0; value = u32_at x 4 }) (runs_in xs))
    go true f g = f
    go false f g = ap (λ r. r ∷ map run_of (runs_from (u32_at x 0) x xs)) (run_kept n e (omega arith) h) ∙ ap (λ l. record { count = n; value = u32_at e 4 } ∷ l) g

pub entries_runs : (es : List (List ℕ)) → Wide 8 es → length (expand (runs_in es)) < 4294967296 → map run_of (compact_runs es) ≡ closed_runs (runs_in es)
unfolding compact_runs
entries_runs [] k b = refl
entries_runs (e ∷ es) k b = from_runs (u32_at e 0) e es k.0 k.1 (omega (arith, b, length-append (replicate (u32_at e 0) (u32_at e 4)) (expand (runs_in es)), length-replicate (u32_at e 0) (u32_at e 4)))

module _ (a : List ℕ) (h : 16 ≤ length a) (k : kind_of a ≡ stts) where
  stts_wide : Wide 8 (entries 16 8 a)
  unfolding entries
  stts_wide = rows_wide 8 (drop 16 a)

  pub stts_runs : length (per_sample a) < 4294967296 → runs_of (compact_table a) ≡ closed_runs (runs_of a)
  unfolding runs_of per_sample
  stts_runs b =
      ap (λ x. map run_of (entries 16 8 x)) (table_runs a h stts (sym k) refl)
      ∙ ap (map run_of) (written_entries a (compact_runs (entries 16 8 a)) h 8 (omega arith) (runs_wide (entries 16 8 a) stts_wide))
      ∙ entries_runs (entries 16 8 a) stts_wide b

  pub stts_same : length (per_sample a) < 4294967296 → per_sample (compact_table a) ≡ per_sample a
  unfolding per_sample
  stts_same b = ap expand (stts_runs b) ∙ closed_same (runs_of a)

-- ---- what refusal 9 asks of an stts closed up

pub some_merged : (r : Run) (rs : List Run) → 0 < r.count → AllSome rs → AllSome (merge_from r rs)
some_merged r [] g h = (g, tt)
some_merged r (x ∷ xs) g h = go (eqb r.value x.value) (some_merged (record { count = r.count + x.count; value = r.value }) xs (omega (arith, g)) h.1) (some_merged x xs h.0 h.1)
  where
    go : (b : Bool) → AllSome (merge_from (record { count = r.count + x.count; value = r.value }) xs) → AllSome (merge_from x xs)
        → AllSome (cond b (merge_from (record { count = r.count + x.count; value = r.value }) xs) (r ∷ merge_from x xs))
    go true f k = f
    go false f k = (g, k)

pub some_closed : (rs : List Run) → AllSome rs → AllSome (closed_runs rs)
some_closed [] h = tt
some_closed (r ∷ rs) h = some_merged r rs h.0 h.1

pub none_empty : (rs : List Run) → any_empty rs ≡ false → AllSome rs
none_empty [] h = tt
none_empty (r ∷ rs) h = let b = or_both _ _ h in (pos_of_ne-zero (eqb-false _ _ b.0), none_empty rs b.1)

pub empty_none : (rs : List Run) → AllSome rs → any_empty rs ≡ false
empty_none [] h = refl
empty_none (r ∷ rs) h = or_neither _ _ (ne_eqb r.count 0 (λ e. omega (arith, h.0))) (empty_none rs h.1)

module _ (a : List ℕ) (h : 16 ≤ length a) (k : kind_of a ≡ stts) (n : ℕ) (b : n < 4294967296) (g : miscounted n a ≡ false) where
  pub stts_counted : length (per_sample a) ≡ n
  unfolding miscounted
  stts_counted = sym (eqb-true n (length (per_sample a)) (not-false _ (or_right (any_empty (runs_of a)) _ g)))

  low : length (per_sample a) < 4294967296
  low = omega (arith, stts_counted, b)

  pub stts_durations : per_sample (compact_table a) ≡ per_sample a
  stts_durations = stts_same a h k low

  pub stts_right : miscounted n (compact_table a) ≡ false
  unfolding miscounted
  stts_right =
      or_neither _ _ (ap any_empty (stts_runs a h k low) ∙ empty_none (closed_runs (runs_of a)) (some_closed (runs_of a) (none_empty (runs_of a) (or_left (any_empty (runs_of a)) _ g))))
      (ap (λ l. not (eqb n (length l))) stts_durations ∙ or_right (any_empty (runs_of a)) _ g)
