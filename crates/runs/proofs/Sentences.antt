-- What document 01 says in sentences of the definitions that compute, run by run or sample by sample: when a table counts n samples, when a total is over, which
-- sample holds a media time, and what the least duration is.
-- Assumes nothing.
use Rattle.std.specs.Prelude.{Some, None}
use Prim.Native.Nat.{ℕ, zero, suc, ◌-◌, ◌≤◌, ◌<◌}
use mathlib.Core.Path.{◌≡◌, sym, ap, ◌∙◌}
use mathlib.Core.Bool.{true, false, cond}
use mathlib.Core.List.{List, [], ◌∷◌, map}
use native.Mathlib.Omega.{arith}
use native.Mathlib.Decide.{dec_lt, ℕ_discrete}
use lib.Dec.{ltb, eqb, lit<}
use lib.IntN.{pos}
use lib.ListN.{length, get_or}
use borrow.Author.Tests.{lt-ltb, le-ltb, ne_eqb, ltb-false, eqb-true, eqb-false}
use Rattle.bigendian.specs.BigEndian.{signed32}
use Rattle.bigendian.proofs.Halves.{signed_low}
use Rattle.lists.specs.Lists.{sum, Run, expand, holder, Holds}
use Rattle.lists.proofs.Laws.{length_run}
use Rattle.lists.proofs.Places.{holder_holds, holder_only, holds_below}
use Rattle.lists.proofs.Booleans.{cond_unless}
use Rattle.runs.specs.Runs.{runs_of, per_sample, composition_offset, sample_at, lesser_of, least_of}
use Rattle.runs.specs.Computed.{counting}
use Rattle.runs.proofs.Leasts.{lesser_none, lesser_other, lesser_both}
use Rattle.runs.proofs.Turns.{spread_in, at_end}

-- ---- refusal 9: "an stts or ctts entry counts 0 samples; stts, or a present ctts, doesn't total N"

pub record Counted (n : ℕ) (rs : List Run) : Type 0 where
  pub each : (i : ℕ) → i < length rs → 0 < get_or (map (λ r. r.count) rs) i 0
  pub all : length (expand rs) ≡ n

each_next : (r : Run) (rs : List Run) → 0 < r.count → ((i : ℕ) → i < length rs → 0 < get_or (map (λ x. x.count) rs) i 0) →
    (i : ℕ) → i < length (r ∷ rs) → 0 < get_or (map (λ x. x.count) (r ∷ rs)) i 0
each_next r rs p f zero h = p
each_next r rs p f (suc i) h = f i (omega arith)

pub counting_known : (n : ℕ) (rs : List Run) → counting n rs ≡ true → Counted n rs
counting_known n [] e = record { each = λ i h. absurd (omega arith); all = sym (eqb-true n 0 e) }
counting_known n (r ∷ rs) e =
    let p = cond_unless (eqb r.count 0) (cond (ltb n r.count) false (counting (n - r.count) rs)) e in
    let q = cond_unless (ltb n r.count) (counting (n - r.count) rs) p.1 in
    let ih = counting_known (n - r.count) rs q.1 in
    let z = eqb-false r.count 0 p.0 in
    record {
      each = each_next r rs (omega arith) ih.each;
      all = omega (arith, length_run r.value (expand rs) r.count, ltb-false n r.count q.0, ih.all);
    }

pub counting_only : (n : ℕ) (rs : List Run) → Counted n rs → counting n rs ≡ true
counting_only n [] c = sym (ap (λ x. eqb x 0) c.all)
counting_only n (r ∷ rs) c =
    let p : 0 < r.count = c.each 0 (omega arith) in
    let l = length_run r.value (expand rs) r.count in
    let k : r.count ≤ n = omega (arith, l, c.all) in
    rw (ne_eqb r.count 0 (λ z. omega arith), le-ltb n r.count k)
    (counting_only (n - r.count) rs (record { each = λ i h. c.each (suc i) (omega arith); all = omega (arith, l, c.all) }))

-- a table that counts n samples has n durations
pub counted_length : (n : ℕ) (s : List ℕ) → counting n (runs_of s) ≡ true → length (per_sample s) ≡ n
unfolding per_sample
counted_length n s e = (counting_known n (runs_of s) e).all

-- ---- "0 without ctts"

pub offset_absent : (i : ℕ) → composition_offset [] i ≡ pos 0
unfolding composition_offset
offset_absent i = ap signed32 (ap (λ x. get_or x i 0) (sym (spread_in [])) ∙ at_end [] i (lit< tt)) ∙ signed_low 0 (lit< tt)

-- ---- "the n with decode time ≤ t < decode time plus duration"

pub sample_in : (ds : List ℕ) (t : ℕ) → t < sum ds → sample_at ds t ≡ Some (holder ds t)
unfolding sample_at
sample_in ds t h = rw (lt-ltb t (sum ds) h)

pub sample_past : (ds : List ℕ) (t : ℕ) → sum ds ≤ t → sample_at ds t ≡ None
unfolding sample_at
sample_past ds t h = rw (le-ltb t (sum ds) h)

-- what is answered holds t, so its duration is not 0
pub sample_holds : (ds : List ℕ) (t i : ℕ) → sample_at ds t ≡ Some i → Holds ds t i
sample_holds ds t i e = elim (dec_lt t (sum ds)) [
  | yes l ↦ let o = sample_in ds t l in let q : holder ds t ≡ i = cc in rw q at (holder_holds ds t l)
  | no l ↦ let o = sample_past ds t (omega arith) in let z : ◌≡◌ {A = ℕ} 0 1 = cc in absurd (omega arith)
]

-- and whatever holds t is answered
pub sample_only : (ds : List ℕ) (t i : ℕ) → Holds ds t i → sample_at ds t ≡ Some i
sample_only ds t i h = sample_in ds t (holds_below ds t i h).0 ∙ ap Some (sym (holder_only ds t i h))

pub outside_known : (ds : List ℕ) (t : ℕ) → sample_at ds t ≡ None → sum ds ≤ t
outside_known ds t e = elim (dec_lt t (sum ds)) [
  | yes l ↦ let o = sample_in ds t l in let z : ◌≡◌ {A = ℕ} 0 1 = cc in absurd (omega arith)
  | no l ↦ omega arith
]

-- ---- "least non-zero duration"

lesser_le : (a b : ℕ) → ((0 < a) → (0 < lesser_of a b) × (lesser_of a b ≤ a)) × ((0 < b) → (0 < lesser_of a b) × (lesser_of a b ≤ b))
lesser_le a b = elim (ℕ_discrete a 0) [
  | yes z ↦ rw (lesser_none a b z) (λ p. absurd (omega arith), λ p. (p, omega arith))
  | no z ↦ elim (ℕ_discrete b 0) [
    | yes y ↦ rw (lesser_other a b z y) (λ p. (p, omega arith), λ p. absurd (omega arith))
    | no y ↦ rw (lesser_both a b z y) (λ p. (omega arith, omega arith), λ p. (omega arith, omega arith))
  ]
]

-- it is below none of the durations that are not 0
pub least_below : (ds : List ℕ) (i : ℕ) → 0 < get_or ds i 0 → (0 < least_of ds) × (least_of ds ≤ get_or ds i 0)
least_below [] i h = absurd (omega arith)
least_below (d ∷ ds) zero h = (lesser_le d (least_of ds)).0 h
least_below (d ∷ ds) (suc i) h = let p = least_below ds i h in let q = (lesser_le d (least_of ds)).1 p.0 in (q.0, omega arith)

-- and one of them, unless it is 0
pub least_one : (ds : List ℕ) → 0 < least_of ds → (i : ℕ) × (get_or ds i 0 ≡ least_of ds)
least_one [] h = absurd (omega arith)
least_one (d ∷ ds) h = elim (ℕ_discrete d 0) [
  | yes z ↦ let e = lesser_none d (least_of ds) z in let ih = least_one ds (omega arith) in (suc ih.0, ih.1 ∙ sym e)
  | no z ↦ elim (ℕ_discrete (least_of ds) 0) [
    | yes y ↦ (0, sym (lesser_other d (least_of ds) z y))
    | no y ↦ elim (dec_lt d (least_of ds)) [
      | yes l ↦ (0, omega (arith, lesser_both d (least_of ds) z y))
      | no l ↦ let ih = least_one ds (omega arith) in (suc ih.0, omega (arith, ih.1, lesser_both d (least_of ds) z y))
    ]
  ]
]
