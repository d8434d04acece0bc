-- One turn of a loop over runs: the first run of a part is what its first eight bytes say, and the others are those of the rest.
-- Assumes nothing.
use Prim.Native.Nat.{ℕ, ◌-◌, ◌≤◌, ◌<◌}
use mathlib.Core.Path.{◌≡◌, refl, sym, ap, ◌∙◌}
use mathlib.Core.List.{List, [], ◌∷◌, ◌++◌, map}
use mathlib.Core.Bool.{false}
use lib.Dec.{eqb, lit<, lit≤}
use borrow.Author.Tests.{eq-eqb, ne_eqb, lt-ltb, le-ltb}
use lib.ListN.{length, drop, replicate, get_or}
use Rattle.bigendian.specs.BigEndian.{u32_at}
use Rattle.bigendian.proofs.Laws.{be_at_take}
use Rattle.lists.specs.Lists.{expand}
use Rattle.lists.specs.Entries.{entries}
use Rattle.lists.proofs.Laws.{get_or_in, get_or_past}
use Rattle.lists.proofs.Rows.{rows_none, rows_next}
use Rattle.runs.specs.Runs.{run_of, runs_in, runs_of, per_sample}
use Rattle.runs.specs.Computed.{counting}

-- a table's runs are those of what follows its head
pub runs-in : (s : List ℕ) → runs_of s ≡ runs_in (drop 16 s)
unfolding runs_of runs_in entries
runs-in s = refl

pub runs_none : (t : List ℕ) → length t < 8 → runs_in t ≡ []
unfolding runs_in
runs_none t h = ap (map run_of) (rows_none 8 t h)

pub runs_next : (t : List ℕ) → 8 ≤ length t → runs_in t ≡ record { count = u32_at t 0; value = u32_at t 4 } ∷ runs_in (drop 8 t)
unfolding runs_in
runs_next t h =
    ap (map run_of) (rows_next 8 t (lit< tt) h)
    ∙ (λ i. record { count = be_at_take 4 8 t 0 (lit≤ tt) i; value = be_at_take 4 8 t 4 (lit≤ tt) i } ∷ runs_in (drop 8 t))

-- one number for each sample: those of what follows the head; none of a part without a run; and the first run's, before those of the rest
pub spread_in : (s : List ℕ) → expand (runs_in (drop 16 s)) ≡ per_sample s
unfolding per_sample
spread_in s = ap expand (sym (runs-in s))

pub spread_none : (t : List ℕ) → length t < 8 → expand (runs_in t) ≡ []
spread_none t h = ap expand (runs_none t h)

pub spread_next : (t : List ℕ) {n v : ℕ} → 8 ≤ length t → n ≡ u32_at t 0 → v ≡ u32_at t 4 → expand (runs_in t) ≡ replicate n v ++ expand (runs_in (drop 8 t))
spread_next t h p q = rw (p, q) (ap expand (runs_next t h))

-- the number of the sample with index i, by the first run n
module _ (t : List ℕ) (i : ℕ) {n : ℕ} (h : 8 ≤ length t) (e : n ≡ u32_at t 0) where
  pub at_first : i < n → get_or (expand (runs_in t)) i 0 ≡ u32_at t 4
  at_first l = ap (λ x. get_or x i 0) (spread_next t h e refl) ∙ get_or_in (u32_at t 4) (expand (runs_in (drop 8 t))) n i l

  pub at_next : n ≤ i → get_or (expand (runs_in t)) i 0 ≡ get_or (expand (runs_in (drop 8 t))) (i - n) 0
  at_next l = ap (λ x. get_or x i 0) (spread_next t h e refl) ∙ get_or_past (u32_at t 4) (expand (runs_in (drop 8 t))) n i l

pub at_end : (t : List ℕ) (i : ℕ) → length t < 8 → get_or (expand (runs_in t)) i 0 ≡ 0
at_end t i h = ap (λ x. get_or x i 0) (spread_none t h)

-- what counts n, by its first run c and the rest
module _ (n : ℕ) (t : List ℕ) (c : ℕ) (e : c ≡ u32_at t 0) (h : 8 ≤ length t) where
  pub count_zero : c ≡ 0 → counting n (runs_in t) ≡ false
  count_zero z = ap (counting n) (runs_next t h) ∙ rw (← e, eq-eqb c 0 z)

  pub count_over : (c ≡ 0 → ⊥) → n < c → counting n (runs_in t) ≡ false
  count_over ne l = ap (counting n) (runs_next t h) ∙ rw (← e, ne_eqb c 0 ne, lt-ltb n c l)

  pub count_next : (c ≡ 0 → ⊥) → c ≤ n → counting n (runs_in t) ≡ counting (n - c) (runs_in (drop 8 t))
  count_next ne l = ap (counting n) (runs_next t h) ∙ rw (← e, ne_eqb c 0 ne, le-ltb n c l)

pub count_end : (n : ℕ) (t : List ℕ) → length t < 8 → counting n (runs_in t) ≡ eqb n 0
count_end n t h = ap (counting n) (runs_none t h)
