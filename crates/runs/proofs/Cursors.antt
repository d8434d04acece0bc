-- Laws of the cursor: to ready it changes nothing that lies ahead, and one that is ready has a sample in its run, unless none lies ahead.
-- Assumes nothing.
use Prim.Native.Nat.{ℕ, ◌+◌, ◌≤◌, ◌<◌}
use mathlib.Core.Path.{◌≡◌, refl, sym, ap, ◌∙◌}
use mathlib.Core.List.{List, [], ◌∷◌}
use native.Mathlib.Omega.{arith}
use native.Mathlib.Decide.{ℕ_discrete, dec_lt}
use lib.ListN.{length, drop}
use lib.Seq.{drop-drop}
use borrow.Author.Tests.{eq-eqb, ne_eqb}
use Rattle.bigendian.specs.BigEndian.{u32_at}
use Rattle.lists.specs.Lists.{Run, expand}
use Rattle.lists.proofs.Laws.{drop_in, replicate_cons}
use Rattle.runs.specs.Runs.{runs_in, per_sample}
use Rattle.runs.specs.Cursors.{run_ahead, RunStands, start_run, loaded_run, readied_run_in, readied_run, past_run}
use Rattle.runs.specs.declared.cursor.RunCursor.{RunCursor}
use Rattle.runs.proofs.Turns.{runs_none, runs_next, spread_in}

-- ahead of the start lies the whole table
pub run_start : (s : List ℕ) → run_ahead s start_run ≡ per_sample s
unfolding run_ahead
run_start s = spread_in s

-- ---- to ready a cursor: what the loop that reads entries keeps

pub ready_stop : (s : List ℕ) (r : RunCursor) → (r.count ≡ 0 → ⊥) → readied_run s r ≡ r
unfolding readied_run
ready_stop s r z = go (runs_in (drop r.at s))
  where
    go : (es : List Run) → readied_run_in es r ≡ r
    go [] = refl
    go (e ∷ es) = rw (ne_eqb r.count 0 z)

module _ (s : List ℕ) (r : RunCursor) {t : List ℕ} (p : t ≡ drop r.at s) where
  pub ready_end : length t < 8 → readied_run s r ≡ r
  unfolding readied_run
  ready_end h = ap (λ (l : List ℕ). readied_run_in (runs_in l) r) (sym p) ∙ ap (λ (es : List Run). readied_run_in es r) (runs_none t h)

  pub ready_next : 8 ≤ length t → r.count ≡ 0 → {count each : ℕ} → count ≡ u32_at t 0 → each ≡ u32_at t 4
      → readied_run s (record { at = r.at + 8; count = count; each = each }) ≡ readied_run s r
  unfolding readied_run
  ready_next h z {count} {each} a b =
      let m : drop (r.at + 8) s ≡ drop 8 t = sym (drop-drop 8 r.at s) ∙ sym (ap (drop 8) p) in
      let o : runs_in (drop r.at s) ≡ record { count = count; value = each } ∷ runs_in (drop 8 t) =
      ap runs_in (sym p) ∙ runs_next t h ∙ (λ i. record { count = sym a i; value = sym b i } ∷ runs_in (drop 8 t)) in
      ap (λ (l : List ℕ). readied_run_in (runs_in l) (record { at = r.at + 8; count = count; each = each })) m
      ∙ rw (o, eq-eqb r.count 0 z)

-- ---- what lies ahead

-- r has the same samples ahead as c, and one of them in its run, unless none lies ahead
pub record SameRun (s : List ℕ) (c r : RunCursor) : Type 0 where
  pub samples : run_ahead s r ≡ run_ahead s c
  pub stands : RunStands s r

module _ (s : List ℕ) where
  -- the first entry of what a cursor has not read, and the rest
  split : (at : ℕ) (e : Run) (es : List Run) → runs_in (drop at s) ≡ e ∷ es → runs_in (drop (at + 8) s) ≡ es
  split at e es q = elim (dec_lt (length (drop at s)) 8) [
    | yes l ↦ let n : runs_in (drop at s) ≡ [] = runs_none (drop at s) l in let z : ◌≡◌ {A = ℕ} 0 1 = cc in absurd (omega arith)
    | no l ↦
        let h : 8 ≤ length (drop at s) = omega arith in
        let n = runs_next (drop at s) h in
        let t : runs_in (drop 8 (drop at s)) ≡ es = cc in
        ap runs_in (sym (drop-drop 8 at s)) ∙ t
  ]

  same_in : (es : List Run) (c : RunCursor) → runs_in (drop c.at s) ≡ es → SameRun s c (readied_run_in es c)
  unfolding run_ahead
  same_in [] c q = record { samples = refl; stands = record { none = λ z. rw (z, q) } }
  same_in (e ∷ es) c q = elim (ℕ_discrete c.count 0) [
    | yes z ↦
        let m = split c.at e es q in
        let w = same_in es (loaded_run e c) m in
        rw (eq-eqb c.count 0 z) (record { samples = w.samples ∙ rw (m, z, q); stands = w.stands })
    | no z ↦ rw (ne_eqb c.count 0 z) (record { samples = refl; stands = record { none = λ y. absurd (z y) } })
  ]

  pub run_same : (c : RunCursor) → SameRun s c (readied_run s c)
  unfolding readied_run
  run_same c = same_in (runs_in (drop c.at s)) c refl

-- the sample at which a cursor stands, and what follows it
pub run_cons : (s : List ℕ) (c : RunCursor) → 0 < c.count → run_ahead s c ≡ c.each ∷ run_ahead s (past_run 1 c)
unfolding run_ahead
run_cons s c h = replicate_cons c.count c.each (expand (runs_in (drop c.at s))) h

-- past some samples of the run, the others lie ahead
pub run_past : (s : List ℕ) (c : RunCursor) (k : ℕ) → k ≤ c.count → run_ahead s (past_run k c) ≡ drop k (run_ahead s c)
unfolding run_ahead
run_past s c k h = sym (drop_in c.each (expand (runs_in (drop c.at s))) c.count k h)
