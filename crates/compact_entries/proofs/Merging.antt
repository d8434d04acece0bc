-- Entries of stts joined, entry by entry.
-- Assumes nothing.
use Prim.Native.Nat.{ℕ, ◌+◌, ◌<◌, ◌≤◌}
use mathlib.Core.Path.{◌≡◌, ap, ◌∙◌}
use mathlib.Core.List.{List, [], ◌++◌}
use mathlib.Core.Bool.{Bool, true, false}
use lib.ListN.{length, take, drop, length-append}
use lib.Dec.{lit<}
use borrow.Author.Tests.{eq-eqb, ne_eqb}
use Rattle.bigendian.specs.BigEndian.{u32_at}
use Rattle.lists.specs.Entries.{rows_of}
use Rattle.lists.proofs.Rows.{rows_none, rows_next}
use Rattle.byte_writing.specs.Bytes.{be32, joined}
use Rattle.byte_writing.proofs.Writing.{be32_length}
use Rattle.compact_entries.specs.Entries.{with_count, runs_from, compact_runs, same_deal, deals_from, compact_deals}

-- what is still to be written: the entry e with n samples so far, and those of t
unfoldable pub runs_rest : ℕ → List ℕ → List ℕ → List ℕ
runs_rest n e t = joined (runs_from n e (rows_of 8 t))

pub runs_none : (t : List ℕ) → length t < 8 → joined (compact_runs (rows_of 8 t)) ≡ []
unfolding compact_runs joined
runs_none t h = rw (rows_none 8 t h)

pub runs_first : (t : List ℕ) (n : ℕ) → 8 ≤ length t → n ≡ u32_at (take 8 t) 0 → joined (compact_runs (rows_of 8 t)) ≡ runs_rest n (take 8 t) (drop 8 t)
unfolding compact_runs runs_rest
runs_first t n h e = rw (rows_next 8 t (lit< tt) h, e)

module _ (n : ℕ) (e t : List ℕ) where
  pub rest_end : length t < 8 → runs_rest n e t ≡ with_count n e ++ []
  unfolding runs_rest runs_from joined
  rest_end h = rw (rows_none 8 t h)

  module _ (h : 8 ≤ length t) {v u c : ℕ} (p : v ≡ u32_at e 4) (q : u ≡ u32_at (take 8 t) 4) (r : c ≡ u32_at (take 8 t) 0) where
    pub rest_same : v ≡ u → runs_rest n e t ≡ runs_rest (n + c) e (drop 8 t)
    unfolding runs_rest runs_from
    rest_same g = rw (rows_next 8 t (lit< tt) h, ← p, ← q, eq-eqb v u g, ← r)

    pub rest_other : (v ≡ u → ⊥) → runs_rest n e t ≡ with_count n e ++ runs_rest c (take 8 t) (drop 8 t)
    unfolding runs_rest runs_from joined
    rest_other g = rw (rows_next 8 t (lit< tt) h, ← p, ← q, ne_eqb v u g, ← r)

-- ---- an entry: its count, then its duration
pub count_parts : (n : ℕ) (e : List ℕ) → length (with_count n e) ≡ 4 + length (take 4 (drop 4 e))
unfolding with_count
count_parts n e = length-append (be32 n) (take 4 (drop 4 e)) ∙ ap (λ (k : ℕ). k + length (take 4 (drop 4 e))) (be32_length n)

-- ---- entries of stsc

unfoldable pub deals_rest : List ℕ → List ℕ → List ℕ
deals_rest e t = joined (deals_from e (rows_of 12 t))

pub deals_none : (t : List ℕ) → length t < 12 → joined (compact_deals (rows_of 12 t)) ≡ []
unfolding compact_deals joined
deals_none t h = rw (rows_none 12 t h)

pub deals_first : (t : List ℕ) → 12 ≤ length t → joined (compact_deals (rows_of 12 t)) ≡ take 12 t ++ deals_rest (take 12 t) (drop 12 t)
unfolding compact_deals deals_rest joined
deals_first t h = rw (rows_next 12 t (lit< tt) h)

module _ (e t : List ℕ) where
  pub deals_end : length t < 12 → deals_rest e t ≡ []
  unfolding deals_rest deals_from joined
  deals_end h = rw (rows_none 12 t h)

  module _ (h : 12 ≤ length t) {b : Bool} (p : b ≡ same_deal e (take 12 t)) where
    pub deals_same : b ≡ true → deals_rest e t ≡ deals_rest e (drop 12 t)
    unfolding deals_rest deals_from
    deals_same g = rw (rows_next 12 t (lit< tt) h, ← p, g)

    pub deals_other : b ≡ false → deals_rest e t ≡ take 12 t ++ deals_rest (take 12 t) (drop 12 t)
    unfolding deals_rest deals_from joined
    deals_other g = rw (rows_next 12 t (lit< tt) h, ← p, g)
