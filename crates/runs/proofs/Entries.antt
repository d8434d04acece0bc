-- The entry that holds a sample, as a lookup counts entries, and that there is one: its position is never above the number of entries.
-- Assumes nothing.
use Rattle.std.specs.Prelude.{Option, Some, None}
use Prim.Native.Nat.{ℕ, ◌+◌, ◌-◌, ◌*◌, ◌/◌, ◌%◌, ◌≤◌, ◌<◌}
use mathlib.Core.Path.{◌≡◌, refl, sym, ap, ◌∙◌}
use mathlib.Core.Bool.{Bool, true, false, cond}
use mathlib.Core.List.{List, [], ◌∷◌, map}
use native.Mathlib.Nat.{div-lt_iff_lt-mul}
use native.Mathlib.Decide.{dec_lt}
use native.Mathlib.Omega.{arith}
use borrow.Author.Tests.{lt-ltb, le-ltb}
use lib.Dec.{ltb}
use lib.ListN.{length, get_or, length-map}
use Rattle.lists.specs.Lists.{sum, before, Run, expand, holder}
use Rattle.lists.proofs.Laws.{Walk, walk_in, walk_end, pos_of_lt_mul, holder_hit, holder_miss, length_run, get_or_in, get_or_past}
use Rattle.lists.proofs.Places.{holder_holds, holds_below}
use Rattle.runs.specs.declared.Hit.{Hit}
use Rattle.runs.specs.Runs.{runs_of, per_sample, sample_at, entry_of, hit_of, looked_up}

abbrev counts_of : List Run → List ℕ
counts_of rs = map (λ r. r.count) rs

-- of the runs rs, the first n are passed, with p samples in them, and the rest are ahead
pub record Passed (rs rest : List Run) (n p : ℕ) : Type 0 where
  pub held : (i : ℕ) → p ≤ i → holder (counts_of rs) i ≡ n + holder (counts_of rest) (i - p)
  pub same : (i : ℕ) → p ≤ i → get_or (expand rs) i 0 ≡ get_or (expand rest) (i - p) 0

pub passed_none : (rs : List Run) → Passed rs rs 0 0
passed_none rs = record {
  held = λ i h. let e : i ≡ i - 0 = omega arith in omega (arith, ap (holder (counts_of rs)) e);
  same = λ i h. let e : i ≡ i - 0 = omega arith in ap (λ (j : ℕ). get_or (expand rs) j 0) e;
}

module _ {rs : List Run} {r : Run} {rest : List Run} {n p : ℕ} (a : Passed rs (r ∷ rest) n p) where
  pub passed_next : Passed rs rest (n + 1) (p + r.count)
  passed_next = record {
    held = λ i h.
        let e : i - p - r.count ≡ i - (p + r.count) = omega arith in
        let k : r.count ≤ i - p = omega arith in
        omega (arith, a.held i (omega arith), holder_miss r.count (counts_of rest) (i - p) k, ap (holder (counts_of rest)) e);
    same = λ i h.
        let e : i - p - r.count ≡ i - (p + r.count) = omega arith in
        let k : r.count ≤ i - p = omega arith in
        a.same i (omega arith) ∙ get_or_past r.value (expand rest) r.count (i - p) k ∙ ap (λ (j : ℕ). get_or (expand rest) j 0) e;
  }

  -- the run ahead holds the sample
  pub passed_in : (k : ℕ) → k < r.count → entry_of rs (p + k) ≡ n + 1
  unfolding entry_of
  passed_in k l =
      let e : p + k - p ≡ k = omega arith in
      omega (arith, a.held (p + k) (omega arith), ap (holder (counts_of (r ∷ rest))) e, holder_hit r.count (counts_of rest) k l)

  pub passed_value : (k : ℕ) → k < r.count → get_or (expand rs) (p + k) 0 ≡ r.value
  passed_value k l =
      let e : p + k - p ≡ k = omega arith in
      a.same (p + k) (omega arith)
      ∙ ap (λ (j : ℕ). get_or (expand (r ∷ rest)) j 0) e
      ∙ get_or_in r.value (expand rest) r.count k l

  -- what is found l past the start of the run ahead
  pub looked_in : {t l : ℕ} → Walk (expand rs) (expand (r ∷ rest)) t p l → l < r.count * r.value
      → Some (record { index = p + l / r.value; entry = n + 1; start = t - l % r.value; duration = r.value }) ≡ looked_up rs t
  unfolding looked_up hit_of
  looked_in {t} {l} w h =
      let f = walk_in (record { walk = w }) h in
      let k : l / r.value < r.count = (div-lt_iff_lt-mul {y = r.count} (pos_of_lt_mul r.count r.value l h)).1 h in
      let s : t - l % r.value ≡ before (expand rs) (p + l / r.value) = omega (arith, f.start, ap (before (expand rs)) f.place) in
      rw (lt-ltb _ _ f.below, f.place)
      (λ i. Some (record {
        index = p + l / r.value;
        entry = sym (passed_in (l / r.value) k) i;
        start = s i;
        duration = sym (passed_value (l / r.value) k) i;
      }))

-- what is found where no run is ahead
pub looked_past : (rs : List Run) {t p l : ℕ} → Walk (expand rs) [] t p l → None ≡ looked_up rs t
unfolding looked_up
looked_past rs w = rw (le-ltb _ _ (walk_end w)) refl

-- what is found at t, and what it says of t where nothing is
pub looked_known : (rs : List Run) (t : ℕ) (h : Hit) → looked_up rs t ≡ Some h → (t < sum (expand rs)) × (h ≡ hit_of rs t)
unfolding looked_up
looked_known rs t h e = elim (dec_lt t (sum (expand rs))) [
  | yes l ↦ let o : looked_up rs t ≡ Some (hit_of rs t) = rw (lt-ltb t (sum (expand rs)) l) refl in (l, cc)
  | no l ↦
      let k : sum (expand rs) ≤ t = omega arith in
      let o : looked_up rs t ≡ None = rw (le-ltb t (sum (expand rs)) k) refl in
      let z : ◌≡◌ {A = ℕ} 0 1 = cc in
      absurd (omega arith)
]

pub looked_outside : (rs : List Run) (t : ℕ) → looked_up rs t ≡ None → sum (expand rs) ≤ t
unfolding looked_up
looked_outside rs t e = elim (dec_lt t (sum (expand rs))) [
  | yes l ↦
      let o : looked_up rs t ≡ Some (hit_of rs t) = rw (lt-ltb t (sum (expand rs)) l) refl in
      let z : ◌≡◌ {A = ℕ} 0 1 = cc in
      absurd (omega arith)
  | no l ↦ omega arith
]

-- the index alone of what is found
unfoldable pub index_in : Option Hit → Option ℕ
index_in (Some h) = Some h.index
index_in None = None

pub index_looked : (s : List ℕ) (t : ℕ) → index_in (looked_up (runs_of s) t) ≡ sample_at (per_sample s) t
unfolding index_in looked_up hit_of sample_at per_sample
index_looked s t = by (ltb t (sum (expand (runs_of s))))
  where
    by : (b : Bool) → index_in (cond b (Some (hit_of (runs_of s) t)) None) ≡ cond b (Some (holder (expand (runs_of s)) t)) None
    by true = refl
    by false = refl

expand_length : (rs : List Run) → length (expand rs) ≡ sum (counts_of rs)
expand_length [] = refl
expand_length (r ∷ rs) = omega (arith, length_run r.value (expand rs) r.count, expand_length rs)

-- "which is never above the number of stts entries"
pub entry_few : (rs : List Run) (i : ℕ) → i < length (expand rs) → entry_of rs i ≤ length rs
unfolding entry_of
entry_few rs i h =
    let l : i < sum (counts_of rs) = omega (arith, expand_length rs) in
    omega (arith, (holds_below (counts_of rs) i (holder (counts_of rs) i) (holder_holds (counts_of rs) i l)).1, length-map rs (λ r. r.count))
