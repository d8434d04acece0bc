-- The cursor before a sample: the same from whichever cursor behind it the entries are read, and ahead of it lie the samples from that one on.
-- Assumes nothing.
use Prim.Native.Nat.{ℕ, suc, ◌+◌, ◌-◌, ◌≤◌, ◌<◌}
use mathlib.Core.Path.{◌≡◌, refl, sym, ap, ◌∙◌}
use mathlib.Core.List.{List, [], ◌∷◌, ◌++◌}
use native.Mathlib.Omega.{arith}
use native.Mathlib.Decide.{ℕ_discrete, dec_lt, dec_le}
use borrow.Author.Tests.{eq-eqb, ne_eqb, lt-ltb, le-ltb}
use lib.IntN.{pos}
use lib.ListN.{length, drop, get_or, replicate, length-drop, drop_of_length-le, get_or-eq_default}
use lib.Seq.{drop-drop, get_or-drop}
use Rattle.bigendian.specs.BigEndian.{u32_at, signed32}
use Rattle.bigendian.proofs.Halves.{signed_low}
use Rattle.lists.specs.Lists.{Run, expand}
use Rattle.lists.proofs.Laws.{length_run}
use Rattle.runs.specs.Runs.{runs_in, runs_of, per_sample}
use Rattle.runs.specs.Cursors.{run_ahead, RunStands, start_run, loaded_run, past_run}
use Rattle.runs.specs.declared.cursor.RunCursor.{RunCursor}
use Rattle.runs.proofs.Turns.{runs-in, runs_none, runs_next}
use Rattle.runs.proofs.Cursors.{run_start, run_past, run_cons}
use Rattle.positions.specs.Runs.{sought_run_in, sought_run, shift_of}

-- ---- what the search keeps

abbrev pub sought_from : List ℕ → RunCursor → ℕ → RunCursor
sought_from s c k = sought_run_in (runs_in (drop c.at s)) c k

module _ (s : List ℕ) where
  pub seek_start : (k : ℕ) → sought_from s start_run k ≡ sought_run s k
  unfolding sought_run
  seek_start k = ap (λ (es : List Run). sought_run_in es start_run k) (sym (runs-in s))

  pub seek_in : (c : RunCursor) (k : ℕ) → k < c.count → sought_from s c k ≡ past_run k c
  seek_in c k h = go (runs_in (drop c.at s))
    where
      go : (es : List Run) → sought_run_in es c k ≡ past_run k c
      go [] = refl
      go (e ∷ es) = rw (lt-ltb k c.count h)

  module _ (c : RunCursor) (k : ℕ) {t : List ℕ} (p : t ≡ drop c.at s) where
    pub seek_end : length t < 8 → sought_from s c k ≡ past_run k c
    seek_end h = ap (λ (l : List ℕ). sought_run_in (runs_in l) c k) (sym p) ∙ ap (λ (es : List Run). sought_run_in es c k) (runs_none t h)

    pub seek_next : 8 ≤ length t → c.count ≤ k → {count each : ℕ} → count ≡ u32_at t 0 → each ≡ u32_at t 4
        → sought_from s (record { at = c.at + 8; count = count; each = each }) (k - c.count) ≡ sought_from s c k
    seek_next h z {count} {each} a b =
        let m : drop (c.at + 8) s ≡ drop 8 t = sym (drop-drop 8 c.at s) ∙ sym (ap (drop 8) p) in
        let o : runs_in (drop c.at s) ≡ record { count = count; value = each } ∷ runs_in (drop 8 t) =
        ap runs_in (sym p) ∙ runs_next t h ∙ (λ i. record { count = sym a i; value = sym b i } ∷ runs_in (drop 8 t)) in
        ap (λ (l : List ℕ). sought_run_in (runs_in l) (record { at = c.at + 8; count = count; each = each }) (k - c.count)) m
        ∙ rw (o, le-ltb k c.count z)

-- ---- what lies ahead

module _ (s : List ℕ) where
  -- the first entry of what a cursor has not read, and the rest
  split : (at : ℕ) (e : Run) (es : List Run) → runs_in (drop at s) ≡ e ∷ es → runs_in (drop (at + 8) s) ≡ es
  split at e es q = elim (dec_lt (length (drop at s)) 8) [
    | yes l ↦ let n : runs_in (drop at s) ≡ [] = runs_none (drop at s) l in let z : ◌≡◌ {A = ℕ} 0 1 = cc in absurd (omega arith)
    | no l ↦
        let n = runs_next (drop at s) (omega arith) in
        let t : runs_in (drop 8 (drop at s)) ≡ es = cc in
        ap runs_in (sym (drop-drop 8 at s)) ∙ t
  ]

  further_end : (c : RunCursor) (k : ℕ) → runs_in (drop c.at s) ≡ [] → run_ahead s (past_run k c) ≡ drop k (run_ahead s c)
  unfolding run_ahead
  further_end c k q = elim (dec_le k c.count) [
    | yes l ↦ run_past s c k l
    | no l ↦
        let z : c.count - k ≡ 0 = omega arith in
        rw (z, q) (sym (drop_of_length-le _ {i = k} (omega (arith, length_run c.each [] c.count))))
  ]

  further : (es : List Run) (c : RunCursor) (k : ℕ) → runs_in (drop c.at s) ≡ es → run_ahead s (sought_run_in es c k) ≡ drop k (run_ahead s c)
  unfolding run_ahead
  further [] c k q = further_end c k q
  further (e ∷ es) c k q = elim (dec_lt k c.count) [
    | yes l ↦ rw (lt-ltb k c.count l) (run_past s c k (omega arith))
    | no l ↦
        let m = split c.at e es q in
        let w = further es (loaded_run e c) (k - c.count) m in
        let z : c.count - c.count ≡ 0 = omega arith in
        let n : c.count + (k - c.count) ≡ k = omega arith in
        let a : run_ahead s (loaded_run e c) ≡ run_ahead s (past_run c.count c) = rw (m, z, q) in
        rw (le-ltb k c.count (omega arith))
        (w ∙ ap (drop (k - c.count)) (a ∙ run_past s c c.count (omega arith)) ∙ drop-drop (k - c.count) c.count _ ∙ rw n)
  ]

  pub run_sought : (k : ℕ) → run_ahead s (sought_run s k) ≡ drop k (per_sample s)
  unfolding sought_run
  run_sought k = further (runs_of s) start_run k (sym (runs-in s)) ∙ ap (drop k) (run_start s)

-- ---- the sample at which a cursor stands

-- c has the numbers from index k on ahead, and a sample in its run, unless none lies ahead
module _ (s ns : List ℕ) (k : ℕ) (c : RunCursor) (a : run_ahead s c ≡ drop k ns) (w : RunStands s c) where
  first : (x : ℕ) (l : List ℕ) → run_ahead s c ≡ x ∷ l → get_or ns k 0 ≡ x
  first x l e =
      let z : k ≡ k + 0 = omega arith in
      ap (λ (j : ℕ). get_or ns j 0) z ∙ sym (get_or-drop k ns 0 0) ∙ ap (λ (y : List ℕ). get_or y 0 0) (sym a ∙ e)

  pub run_some : k < length ns → 0 < c.count
  run_some h = elim (ℕ_discrete c.count 0) [
    | yes z ↦ absurd (omega (arith, ap length (sym a ∙ w.none z), length-drop k ns))
    | no z ↦ omega arith
  ]

  pub run_each : 0 < c.count → get_or ns k 0 ≡ c.each
  run_each h = first c.each _ (run_cons s c h)

  pub run_shift : shift_of c ≡ signed32 (get_or ns k 0)
  unfolding shift_of
  run_shift = elim (ℕ_discrete c.count 0) [
    | yes z ↦
        let e : get_or ns k 0 ≡ 0 = get_or-eq_default ns 0 {n = k} (omega (arith, ap length (sym a ∙ w.none z), length-drop k ns)) in
        rw (eq-eqb c.count 0 z, e) (sym (signed_low 0 (omega arith)))
    | no z ↦ rw (ne_eqb c.count 0 z) (ap signed32 (sym (run_each (omega arith))))
  ]

  -- past it
  pub run_moves : run_ahead s (past_run 1 c) ≡ drop (suc k) ns
  unfolding run_ahead
  run_moves = elim (ℕ_discrete c.count 0) [
    | yes z ↦
        let e : drop k ns ≡ [] = sym a ∙ w.none z in
        let l : length ns ≤ k = omega (arith, ap length e, length-drop k ns) in
        let y : c.count - 1 ≡ c.count = omega arith in
        let b : run_ahead s (past_run 1 c) ≡ run_ahead s c = ap (λ (n : ℕ). replicate n c.each ++ expand (runs_in (drop c.at s))) y in
        b ∙ w.none z ∙ sym (drop_of_length-le ns {i = suc k} (omega arith))
    | no z ↦
        let y : k + 1 ≡ suc k = omega arith in
        run_past s c 1 (omega arith) ∙ ap (drop 1) a ∙ drop-drop 1 k ns ∙ ap (λ (n : ℕ). drop n ns) y
  ]

pub shift_none : (c : RunCursor) → c.count ≡ 0 → pos 0 ≡ shift_of c
unfolding shift_of
shift_none c z = rw (eq-eqb c.count 0 z)

pub shift_some : (c : RunCursor) → (c.count ≡ 0 → ⊥) → signed32 c.each ≡ shift_of c
unfolding shift_of
shift_some c z = rw (ne_eqb c.count 0 z)
