-- What a table of runs says, from what its part past a checkpoint says.
-- Assumes nothing.
use Rattle.std.specs.Prelude.{Option, Some, None}
use Rattle.std.proofs.Common.{◌≡◌, ℕ, zero, suc, ◌+◌, ◌-◌, ◌*◌, ◌/◌, ◌%◌, ◌^◌, ◌<◌, ◌≤◌, List, [], ◌∷◌, map, length, get_or, take, drop, ℤ, sym, refl, ap, ◌∙◌, mod-eq_of_lt, arith, length-drop, drop_of_length-le, drop-drop, le-ltb, lt-ltb}
use native.Mathlib.Decide.{dec_lt}
use lib.ListN.{length-map}
use Rattle.bigendian.specs.BigEndian.{signed32}
use Rattle.lists.specs.Lists.{sum, before, Run, expand, holder}
use Rattle.lists.specs.Entries.{rows_of}
use Rattle.lists.proofs.Laws.{Walk}
use Rattle.lists.proofs.Places.{before_le, holder_holds, holds_below}
use Rattle.lists.proofs.Rows.{length_rows}
use Rattle.runs.specs.Runs.{run_of, runs_in, runs_of, per_sample, composition_offset, timing_of, entry_of, hit_of, looked_up}
use Rattle.runs.specs.declared.Timing.{Timing}
use Rattle.runs.specs.declared.Hit.{Hit}
use Rattle.runs.proofs.Turns.{runs-in}
use Rattle.runs.proofs.Entries.{looked_known, looked_outside, entry_few}
use Rattle.edits.specs.declared.MediaTime.{MediaTime}
use Rattle.time_questions.specs.Said.{number_said}
use Rattle.std.specs.Prelude.{Ok, Err}
use Rattle.refusals.specs.declared.Refusal.TheVariants.{Outside}
use Rattle.time_questions.specs.declared.Numbered.{Numbered}
use Rattle.refusals.proofs.Numbers.{ok_one}
use Rattle.movie.proofs.Refused.{not_both}
use Rattle.time_questions.proofs.Mapping.{number_outside, number_past, number_found}
use Rattle.checkpoints.specs.Points.{CountsAt, TotalsAt, point_upto}
use Rattle.run_lookups.specs.From.{passed_at, table_from, timing_from, offset_from, NumberFrom}
use Rattle.checkpoints.proofs.Adding.{runs_from}
use Rattle.checkpoints.proofs.Tails.{value_past, before_past, walk_from, passed_from}

-- the runs of a table from the 64 times ith on
pub tail_runs : (s : List ℕ) (i : ℕ) → runs_of (drop (512 * i) s) ≡ drop (64 * i) (runs_of s)
tail_runs s i =
    let z : 512 * i + 16 ≡ 16 + 512 * i = omega arith in
    runs-in (drop (512 * i) s) ∙ ap runs_in (drop-drop 16 (512 * i) s ∙ ap (λ (n : ℕ). drop n s) z) ∙ runs_from s i

-- the checkpoint that was found is one of them
pub found_in : (i count : ℕ) → 0 < count → (0 < i → i < count) → i < count
found_in zero count h a = h
found_in (suc i) count h a = a (omega arith)

-- ---- by an index: c is the count at the checkpoint

module _ (s : List ℕ) (i c k : ℕ) (q : c ≡ length (expand (take (64 * i) (runs_of s)))) (h : c ≤ k) where
  pub timing_past : (v : ℕ) → v ≡ sum (expand (take (64 * i) (runs_of s))) → sum (per_sample s) < 2 ^ 64 → (f : Timing) → f ≡ timing_of (per_sample (drop (512 * i) s)) (k - c) → (a : ℕ)
      → a ≡ (v + f.start) % 2 ^ 64 → ◌≡◌ {A = Timing} (record { start = a; duration = f.duration }) (timing_of (per_sample s) k)
  unfolding timing_of per_sample
  timing_past v w b f e a g =
      let x : f.start ≡ before (expand (drop (64 * i) (runs_of s))) (k - c) = ap (λ (t : Timing). t.start) e ∙ ap (λ (l : List Run). before (expand l) (k - c)) (tail_runs s i) in
      let y : f.duration ≡ get_or (expand (drop (64 * i) (runs_of s))) (k - c) 0 = ap (λ (t : Timing). t.duration) e ∙ ap (λ (l : List Run). get_or (expand l) (k - c) 0) (tail_runs s i) in
      let m : v + f.start ≡ before (expand (runs_of s)) k = omega (arith, w, x, before_past (runs_of s) (64 * i) c k q h) in
      let n : a ≡ before (expand (runs_of s)) k = g ∙ mod-eq_of_lt (omega (arith, m, before_le (expand (runs_of s)) k)) ∙ m in
      let o : f.duration ≡ get_or (expand (runs_of s)) k 0 = y ∙ sym (value_past (runs_of s) (64 * i) c k q h) in
      λ j. record { start = n j; duration = o j }

  pub offset_past : (f : ℤ) → f ≡ composition_offset (drop (512 * i) s) (k - c) → f ≡ composition_offset s k
  unfolding composition_offset per_sample
  offset_past f e = e ∙ ap (λ (l : List Run). signed32 (get_or (expand l) (k - c) 0)) (tail_runs s i) ∙ ap signed32 (sym (value_past (runs_of s) (64 * i) c k q h))

-- ---- what the code comes to, by any checkpoints: i is the one that it takes

module _ (s points : List ℕ) (count k i c : ℕ) (u : i ≡ point_upto points count 0 k) (q : c ≡ passed_at points i) where
  pub timing_early : (r : Timing) → r ≡ timing_of (per_sample s) k → k < c → r ≡ timing_from s points count k
  unfolding timing_from
  timing_early r e h = rw (← u, lt-ltb k (passed_at points i) (omega arith)) e

  pub timing_late : c ≤ k → (v : ℕ) → v ≡ get_or points (2 * i + 1) 0 → (f : Timing) → f ≡ timing_of (per_sample (drop (512 * i) s)) (k - c) → (a : ℕ) → a ≡ (v + f.start) % 2 ^ 64
      → ◌≡◌ {A = Timing} (record { start = a; duration = f.duration }) (timing_from s points count k)
  unfolding timing_from
  timing_late h v w f e a g =
      let x : f ≡ timing_of (per_sample (table_from s i)) (k - passed_at points i) = e ∙ ap (λ (n : ℕ). timing_of (per_sample (table_from s i)) (k - n)) q in
      let y : a ≡ (get_or points (2 * i + 1) 0 + (timing_of (per_sample (table_from s i)) (k - passed_at points i)).start) % 2 ^ 64 =
      g ∙ ap (λ (n : ℕ). (n + f.start) % 2 ^ 64) w ∙ ap (λ (t : Timing). (get_or points (2 * i + 1) 0 + t.start) % 2 ^ 64) x in
      let z : f.duration ≡ (timing_of (per_sample (table_from s i)) (k - passed_at points i)).duration = ap (λ (t : Timing). t.duration) x in
      rw (← u, le-ltb k (passed_at points i) (omega arith)) (λ j. record { start = y j; duration = z j })

  pub offset_early : (r : ℤ) → r ≡ composition_offset s k → k < c → r ≡ offset_from s points count k
  unfolding offset_from
  offset_early r e h = rw (← u, lt-ltb k (passed_at points i) (omega arith)) e

  pub offset_late : c ≤ k → (f : ℤ) → f ≡ composition_offset (drop (512 * i) s) (k - c) → f ≡ offset_from s points count k
  unfolding offset_from
  offset_late h f e = rw (← u, le-ltb k (passed_at points i) (omega arith)) (e ∙ ap (λ (n : ℕ). composition_offset (table_from s i) (k - n)) q)

-- ---- by a time: v is the total at the checkpoint

-- eight bytes for each entry
entries_few : (s : List ℕ) → length (runs_of s) * 8 ≤ length s
unfolding runs_in
entries_few s = omega (arith, ap length (runs-in s), length-map (rows_of 8 (drop 16 s)) run_of, length_rows 8 (drop 16 s), length-drop 16 s)

-- what a hit says
pub hit_few : (s : List ℕ) (t : ℕ) (g : Hit) → Some g ≡ looked_up (runs_of s) t → (0 < g.entry) × (g.entry * 8 ≤ length s)
unfolding hit_of entry_of
hit_few s t g e =
    let k = looked_known (runs_of s) t g (sym e) in
    let b = holds_below (expand (runs_of s)) t _ (holder_holds (expand (runs_of s)) t k.0) in
    let e = ap (λ (x : Hit). x.entry) k.1 in
    (omega (arith, e), omega (arith, e, entry_few (runs_of s) (holder (expand (runs_of s)) t) b.1, entries_few s))

-- and in the whole table, from whose entry 64 * i on it was looked for
pub hit_in : (s : List ℕ) (i t : ℕ) (g : Hit) → Some g ≡ looked_up (runs_of (drop (512 * i) s)) t → (0 < g.entry) × (64 * i + g.entry ≤ length (runs_of s))
unfolding hit_of entry_of
hit_in s i t g e =
    let f : looked_up (drop (64 * i) (runs_of s)) t ≡ Some g = sym (e ∙ ap (λ (l : List Run). looked_up l t) (tail_runs s i)) in
    let k = looked_known (drop (64 * i) (runs_of s)) t g f in
    let b = holds_below (expand (drop (64 * i) (runs_of s))) t _ (holder_holds (expand (drop (64 * i) (runs_of s))) t k.0) in
    let e = ap (λ (x : Hit). x.entry) k.1 in
    let l = entry_few (drop (64 * i) (runs_of s)) (holder (expand (drop (64 * i) (runs_of s))) t) b.1 in
    (omega (arith, e), omega (arith, e, l, length-drop (64 * i) (runs_of s)))

module _ (s : List ℕ) (i c v : ℕ) (t : MediaTime) (q : c ≡ length (expand (take (64 * i) (runs_of s)))) (w : v ≡ sum (expand (take (64 * i) (runs_of s)))) (h : v ≤ t.0) (m : ℕ)
    (short : length s ≤ 4294967295) where
  walk : Walk (expand (runs_of s)) (expand (drop (64 * i) (runs_of s))) t.0 c (t.0 - v)
  walk = rw (q, w) (walk_from (runs_of s) (64 * i) t.0 (omega (arith, w)))

  pub number_none : sum (expand (runs_of s)) ≤ t.0 → Err Outside ≡ number_said s m t
  unfolding looked_up
  number_none l = number_outside s m t short (looked_up (runs_of s) t.0) refl (rw (le-ltb t.0 (sum (expand (runs_of s))) l))

  module _ (l : t.0 < sum (expand (runs_of s))) where
    found : looked_up (runs_of s) t.0 ≡ Some (hit_of (runs_of s) t.0)
    unfolding looked_up
    found = rw (lt-ltb t.0 (sum (expand (runs_of s))) l)

    index_is : (hit_of (runs_of s) t.0).index ≡ c + holder (expand (drop (64 * i) (runs_of s))) (t.0 - v)
    unfolding hit_of
    index_is = walk.placed

    number_over : m ≤ c + holder (expand (drop (64 * i) (runs_of s))) (t.0 - v) → Err Outside ≡ number_said s m t
    number_over z = number_past s m t short (looked_up (runs_of s) t.0) refl (hit_of (runs_of s) t.0) found (omega (arith, index_is))

  -- so many samples are passed already
  pub number_passed : m ≤ c → Err Outside ≡ number_said s m t
  number_passed z = elim (dec_lt t.0 (sum (expand (runs_of s)))) [
    | yes l ↦ number_over l (omega arith)
    | no l ↦ number_none (omega arith)
  ]

  -- what is found past the checkpoint
  module _ (f : Option Hit) (e : f ≡ looked_up (runs_of (drop (512 * i) s)) (t.0 - v)) where
    same : f ≡ looked_up (drop (64 * i) (runs_of s)) (t.0 - v)
    same = e ∙ ap (λ (l : List Run). looked_up l (t.0 - v)) (tail_runs s i)

    pub from_outside : f ≡ None → Err Outside ≡ number_said s m t
    from_outside z = number_none (omega (arith, walk.summed, looked_outside (drop (64 * i) (runs_of s)) (t.0 - v) (sym same ∙ z)))

    module _ (g : Hit) (z : f ≡ Some g) where
      known : (t.0 - v < sum (expand (drop (64 * i) (runs_of s)))) × (g ≡ hit_of (drop (64 * i) (runs_of s)) (t.0 - v))
      known = looked_known (drop (64 * i) (runs_of s)) (t.0 - v) g (sym same ∙ z)

      below : t.0 < sum (expand (runs_of s))
      below = omega (arith, walk.summed, known.0)

      g_index : g.index ≡ holder (expand (drop (64 * i) (runs_of s))) (t.0 - v)
      unfolding hit_of
      g_index = ap (λ (x : Hit). x.index) known.1

      some : 64 * i ≤ length (runs_of s)
      some = elim (dec_lt (length (runs_of s)) (64 * i)) [
        | yes l ↦ absurd (omega (arith, known.0, ap (λ (x : List Run). sum (expand x)) (drop_of_length-le (runs_of s) {i = 64 * i} (omega arith))))
        | no l ↦ omega arith
      ]

      entry_is : 64 * i + g.entry ≡ (hit_of (runs_of s) t.0).entry
      unfolding hit_of entry_of
      entry_is =
          let p = passed_from (runs_of s) (64 * i) some in
          let k = holder (expand (runs_of s)) t.0 in
          let x = index_is below in
          let y : k - length (expand (take (64 * i) (runs_of s))) ≡ holder (expand (drop (64 * i) (runs_of s))) (t.0 - v) = omega (arith, x, q) in
          omega (
            arith,
            ap (λ (u : Hit). u.entry) known.1,
            p.held k (omega (arith, x, q)),
            ap (holder (map (λ (r : Run). r.count) (drop (64 * i) (runs_of s)))) y,
          )

      pub from_past : m - c ≤ g.index → Err Outside ≡ number_said s m t
      from_past l = number_over below (omega (arith, g_index))

      pub from_found : g.index < m - c → (n k : ℕ) → n ≡ c + g.index + 1 → k ≡ 64 * i + g.entry → Ok (record { sample = n; entry = k }) ≡ number_said s m t
      from_found l n k a b =
          let x = index_is below in
          rw (b, entry_is) (number_found s m t short (looked_up (runs_of s) t.0) refl (hit_of (runs_of s) t.0) (found below) (omega (arith, x, g_index)) n (omega (arith, x, g_index)))

-- ---- the promise, case by case

-- a checkpoint that was found by its total is not past the time
pub not_above : (rs : List Run) (points : List ℕ) (count i x v : ℕ) → TotalsAt rs points count → i < count → (0 < i → get_or points (2 * i + 1) 0 ≤ x) → v ≡ get_or points (2 * i + 1) 0 → v ≤ x
not_above rs points count zero x v ts h a e = omega (arith, ts 0 h, e)
not_above rs points count (suc i) x v ts h a e = omega (arith, a (omega arith), e)

module _ (s points : List ℕ) (count m : ℕ) (t : MediaTime) where
  pub refused_from : (CountsAt (runs_of s) points count → TotalsAt (runs_of s) points count → Err Outside ≡ number_said s m t) → NumberFrom s points count m t (Err Outside)
  refused_from f = record {
    right = f;
    elsewhere = λ k e. cc;
    few = λ n e. not_both (Err Outside) Outside n refl e;
  }

  pub number_by : (n k : ℕ) → 0 < n → n ≤ m → 0 < k → k ≤ length (runs_of s) → (CountsAt (runs_of s) points count → TotalsAt (runs_of s) points count → Ok (record { sample = n; entry = k }) ≡ number_said s m t) → NumberFrom s points count m t (Ok (record { sample = n; entry = k }))
  number_by n k h l a b f = record {
    right = f;
    elsewhere = λ r e. not_both _ r (record { sample = n; entry = k }) e refl;
    few = λ y e. let q : record { sample = n; entry = k } ≡ y = ok_one e in rw (← q) (h, l, a, b);
  }
