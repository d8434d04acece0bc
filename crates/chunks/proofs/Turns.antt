-- One turn of a loop over stsc: the first entry of a part is what its first twelve bytes say, and it holds up to the first chunk of the rest.
-- Assumes nothing.
use Prim.Native.Nat.{ℕ, zero, suc, ◌+◌, ◌*◌, ◌-◌, ◌/◌, ◌^◌, ◌≤◌, ◌<◌}
use mathlib.Core.Path.{◌≡◌, refl, sym, ap, ◌∙◌}
use mathlib.Core.Bool.{Bool, true, false, cond}
use mathlib.Core.List.{List, [], ◌∷◌, ◌++◌, map}
use native.Mathlib.Nat.{mul-le-mul, le-pred_of_lt}
use native.Mathlib.Omega.{arith}
use lib.Dec.{lit<, lit≤}
use native.Mathlib.Decide.{dec_lt}
use lib.ListN.{length, get_or, drop, replicate, length-drop}
use lib.Seq.{get_or-drop}
use borrow.Author.Tests.{eq-eqb, ne_eqb}
use Rattle.bigendian.specs.BigEndian.{u32_at}
use Rattle.bigendian.proofs.Laws.{be_at_take, be_at_below}
use Rattle.lists.specs.Entries.{entries}
use Rattle.lists.specs.Lists.{sum}
use Rattle.lists.proofs.Laws.{length_run, sum_run}
use Rattle.lists.proofs.Rows.{rows_none, rows_next}
use Rattle.chunks.specs.Chunks.{Deal, deal_of, deals_in, deals, first_of, dealt, per_chunk, description_ids}
use Rattle.chunks.specs.Computed.{right_entry, dealing, deals_agree}

-- ---- a part

-- a table's entries are those of what follows its head
pub deals-in : (s : List ℕ) → deals s ≡ deals_in (drop 16 s)
unfolding deals deals_in entries
deals-in s = refl

pub deals_none : (t : List ℕ) → length t < 12 → deals_in t ≡ []
unfolding deals_in
deals_none t h = ap (map deal_of) (rows_none 12 t h)

pub deals_next : (t : List ℕ) → 12 ≤ length t → deals_in t ≡ record { first = u32_at t 0; per = u32_at t 4; id = u32_at t 8 } ∷ deals_in (drop 12 t)
unfolding deals_in
deals_next t h =
    ap (map deal_of) (rows_next 12 t (lit< tt) h)
    ∙ (λ i. record { first = be_at_take 4 12 t 0 (lit≤ tt) i; per = be_at_take 4 12 t 4 (lit≤ tt) i; id = be_at_take 4 12 t 8 (lit≤ tt) i } ∷ deals_in (drop 12 t))

-- the chunk at which a part begins, with an entry and without
pub first_some : (chunks : ℕ) (t : List ℕ) → 12 ≤ length t → first_of chunks (deals_in t) ≡ u32_at t 0
first_some chunks t h = ap (first_of chunks) (deals_next t h)

pub first_none : (chunks : ℕ) (t : List ℕ) → length t < 12 → first_of chunks (deals_in t) ≡ chunks + 1
first_none chunks t h = ap (first_of chunks) (deals_none t h)

-- ---- a table

module _ (s : List ℕ) (chunks : ℕ) {part : List ℕ} (p : part ≡ drop 16 s) where
  in_part : deals_in part ≡ deals s
  in_part = ap deals_in p ∙ sym (deals-in s)

  pub samples_in : dealt (λ e. e.per) chunks (deals_in part) ≡ per_chunk s chunks
  unfolding per_chunk
  samples_in = ap (dealt (λ e. e.per) chunks) in_part

  pub ids_in : dealt (λ e. e.id) chunks (deals_in part) ≡ description_ids s chunks
  unfolding description_ids
  ids_in = ap (dealt (λ e. e.id) chunks) in_part

  module _ (descriptions : ℕ) {first : ℕ} (f : first ≡ first_of chunks (deals_in part)) where
    starts : first ≡ first_of chunks (deals s)
    starts = f ∙ ap (first_of chunks) in_part

    pub agree_not : (first ≡ 1 → ⊥) → deals_agree s chunks descriptions ≡ false
    unfolding deals_agree
    agree_not z = rw (← starts, ne_eqb first 1 z)

    pub agree_on : first ≡ 1 → dealing chunks descriptions (deals_in part) ≡ deals_agree s chunks descriptions
    unfolding deals_agree
    agree_on z = rw (← starts, eq-eqb first 1 z) (ap (dealing chunks descriptions) in_part)

-- ---- the first entry of a part t, and the rest u

module _ (chunks : ℕ) (t u : List ℕ) (h : 12 ≤ length t) (p : u ≡ drop 12 t) {first next : ℕ} (f : first ≡ first_of chunks (deals_in t))
    (n : next ≡ first_of chunks (deals_in u)) where
  opened : deals_in t ≡ record { first = first; per = u32_at t 4; id = u32_at t 8 } ∷ deals_in u
  opened = rw (p, f, first_some chunks t h) (deals_next t h)

  -- the chunks that it holds for
  module _ {count : ℕ} (k : count ≡ next - first) where
    pub next_samples : {per : ℕ} → per ≡ u32_at t 4 → dealt (λ e. e.per) chunks (deals_in t) ≡ replicate count per ++ dealt (λ e. e.per) chunks (deals_in u)
    next_samples q = ap (dealt (λ e. e.per) chunks) opened ∙ rw (k, q, n)

    pub next_ids : {id : ℕ} → id ≡ u32_at t 8 → dealt (λ e. e.id) chunks (deals_in t) ≡ replicate count id ++ dealt (λ e. e.id) chunks (deals_in u)
    next_ids q = ap (dealt (λ e. e.id) chunks) opened ∙ rw (k, q, n)

    -- a sum so far, with the entry's samples
    pub next_sum : {per : ℕ} → per ≡ u32_at t 4 → (total all : ℕ) → total + sum (dealt (λ e. e.per) chunks (deals_in t)) ≡ all →
        total + count * per + sum (dealt (λ e. e.per) chunks (deals_in u)) ≡ all
    next_sum {per} q total all e = omega (arith, e, ap sum (next_samples q), sum_run per (dealt (λ e. e.per) chunks (deals_in u)) count)

  module _ (descriptions : ℕ) {per id : ℕ} (q : per ≡ u32_at t 4) (d : id ≡ u32_at t 8) {right : Bool} (e : right ≡ right_entry first next per id descriptions) where
    next_dealing : dealing chunks descriptions (deals_in t) ≡ cond right (dealing chunks descriptions (deals_in u)) false
    next_dealing = ap (dealing chunks descriptions) opened ∙ rw (e, q, d, n)

    pub dealing_falls : right ≡ false → dealing chunks descriptions (deals_in t) ≡ false
    dealing_falls w = next_dealing ∙ rw w

    pub dealing_on : right ≡ true → dealing chunks descriptions (deals_in t) ≡ dealing chunks descriptions (deals_in u)
    dealing_on w = next_dealing ∙ rw w

pub dealing_end : (chunks descriptions : ℕ) (t : List ℕ) → length t < 12 → dealing chunks descriptions (deals_in t) ≡ true
dealing_end chunks descriptions t h = ap (dealing chunks descriptions) (deals_none t h)

pub dealt_end : (f : Deal → ℕ) (chunks : ℕ) (t : List ℕ) → length t < 12 → dealt f chunks (deals_in t) ≡ []
dealt_end f chunks t h = ap (dealt f chunks) (deals_none t h)

-- ---- a total

-- the samples of a run fit 64 bits, with a total below 2 ^ 32 added too
pub run_fits : {count per : ℕ} → count ≤ 4294967296 → per < 2 ^ 32 → count * per ≤ 18446744069414584320
run_fits h k = mul-le-mul {n₂ = 4294967296} {m₂ = 4294967295} h (le-pred_of_lt k)

-- ---- how many chunks a table deals to

first_small : (chunks : ℕ) (t : List ℕ) → chunks < 2 ^ 32 → ((i : ℕ) → get_or t i 0 < 256) → first_of chunks (deals_in t) ≤ 4294967296
first_small chunks t c b = elim (dec_lt (length t) 12) [
  | yes l ↦ omega (arith, first_none chunks t l)
  | no l ↦ let h : 12 ≤ length t = omega arith in omega (arith, first_some chunks t h, be_at_below 4 t 0 b)
]

few_in : (chunks : ℕ) → chunks < 2 ^ 32 → (n : ℕ) (t : List ℕ) → ((i : ℕ) → get_or t i 0 < 256) → length t < 12 * n + 12 →
    length (dealt (λ e. e.per) chunks (deals_in t)) ≤ n * 4294967296
few_in chunks c zero t b h = omega (arith, ap length (dealt_end (λ e. e.per) chunks t (omega arith)))
few_in chunks c (suc n) t b h = elim (dec_lt (length t) 12) [
  | yes l ↦ omega (arith, ap length (dealt_end (λ e. e.per) chunks t l))
  | no l ↦
      let g : 12 ≤ length t = omega arith in
      let d : (i : ℕ) → get_or (drop 12 t) i 0 < 256 = λ i. omega (arith, get_or-drop 12 t i 0, b (12 + i)) in
      let count = first_of chunks (deals_in (drop 12 t)) - first_of chunks (deals_in t) in
      omega (
        arith,
        ap length (next_samples chunks t (drop 12 t) g refl refl refl {count = count} refl {per = u32_at t 4} refl),
        length_run (u32_at t 4) (dealt (λ e. e.per) chunks (deals_in (drop 12 t))) count,
        first_small chunks (drop 12 t) c d,
        few_in chunks c n (drop 12 t) d (omega (arith, length-drop 12 t)),
      )
]

-- a table of a file deals to so few chunks that their number fits 64 bits
pub few_chunks : (s : List ℕ) (chunks : ℕ) → length s < 2 ^ 32 → chunks < 2 ^ 32 → ((i : ℕ) → get_or s i 0 < 256) → length (per_chunk s chunks) < 2 ^ 63
few_chunks s chunks h c b =
    let d : (i : ℕ) → get_or (drop 16 s) i 0 < 256 = λ i. omega (arith, get_or-drop 16 s i 0, b (16 + i)) in
    omega (arith, ap length (samples_in s chunks refl), few_in chunks c (length s / 12) (drop 16 s) d (omega (arith, length-drop 16 s)))
