-- The window: one sample more at its head and one less at its tail leave it the start of the shortest run, so that one pass meets every run. What makes
-- that right is that a run which is too short without its last sample stays so without its first.
-- Assumes nothing.
use Prim.Native.Nat.{ℕ, zero, suc, ◌+◌, ◌-◌, ◌≤◌, ◌<◌}
use mathlib.Core.Path.{◌≡◌, refl, sym, ap, ◌∙◌}
use mathlib.Core.List.{List, [], ◌∷◌}
use native.Mathlib.Omega.{arith}
use native.Mathlib.Numerals.{add-one}
use native.Mathlib.Decide.{dec_lt, ℕ_discrete}
use lib.ListN.{length, get_or, take, drop, length-drop}
use lib.Seq.{get_or-drop, drop-drop}
use borrow.Author.Tests.{le-leb, lt-leb}
use Rattle.lists.specs.Lists.{sum, before, holder}
use Rattle.lists.proofs.Places.{before_suc, before_le, before_mono, before_all, before_drop, sum_drop, holder_only}
use Rattle.runs.specs.Runs.{per_sample}
use Rattle.runs.specs.Cursors.{run_ahead, start_run, readied_run, past_run}
use Rattle.runs.specs.declared.cursor.RunCursor.{RunCursor}
use Rattle.runs.proofs.Cursors.{run_start, run_same, run_cons}
use Rattle.words.specs.Words.{sizes}
use Rattle.windows.specs.Lengths.{run_length}
use Rattle.windows.specs.declared.Window.{Window}
use Rattle.windows.specs.Windows.{Sliding, start_window, grown_by, Before, Slides, rated_run, better, no_run, best_from}

-- ---- the best of the runs from an index on

pub best_none : (s i : ℕ) (ds zs : List ℕ) → sum ds < s → best_from s i ds zs ≡ no_run
best_none s i [] zs h = refl
best_none s i (d ∷ ds) zs h = rw (lt-leb s (d + sum ds) h) (best_none s (suc i) ds (drop 1 zs) (omega arith))

best_opened : (s i : ℕ) (l zs : List ℕ) → 0 < s → s ≤ sum l
    → best_from s i l zs ≡ better (rated_run s i (run_length s l) (sum (take (run_length s l) zs)) (sum (take (run_length s l) l))) (best_from s (suc i) (drop 1 l) (drop 1 zs))
best_opened s i [] zs p h = absurd (omega arith)
best_opened s i (d ∷ ds) zs p h = rw (le-leb s (d + sum ds) h)

module _ (s : ℕ) (ds zs : List ℕ) (i j span bytes : ℕ) (p : 0 < s) (w : Sliding s ds zs i j span bytes) where
  -- a window that reaches s has the shortest run from i on
  module _ (h : s ≤ span) where
    pub some_run : i < j
    some_run = elim (dec_lt i j) [
      | yes l ↦ l
      | no l ↦ let e : i ≡ j = omega (arith, w.order) in absurd (omega (arith, w.times, ap (before ds) e))
    ]

    length_is : run_length s (drop i ds) ≡ j - i
    length_is =
        let l = some_run in
        let e : i + (j - 1 - i) ≡ j - 1 = omega arith in
        let f : suc (j - 1) ≡ j = omega arith in
        let a = before_drop ds i (j - 1 - i) in
        let b = before_suc ds (j - 1) in
        let g = get_or-drop i ds (j - 1 - i) 0 in
        let k : j - 1 - i ≡ holder (drop i ds) (s - 1) = holder_only (drop i ds) (s - 1) (j - 1 - i) (record {
          from = omega (arith, a, ap (before ds) e, w.short l);
          to = omega (arith, a, ap (before ds) e, b, ap (before ds) f, g, ap (λ (n : ℕ). get_or ds n 0) e, w.times);
        }) in
        omega (arith, k)

    pub peak_here : best_from s i (drop i ds) (drop i zs)
        ≡ better (rated_run s i (j - i) bytes span) (best_from s (suc i) (drop (suc i) ds) (drop (suc i) zs))
    peak_here =
        let l = some_run in
        let e : i + (j - i) ≡ j = omega arith in
        let f : i + 1 ≡ suc i = omega arith in
        let t : before (drop i ds) (j - i) ≡ span = omega (arith, before_drop ds i (j - i), ap (before ds) e, w.times) in
        let z : before (drop i zs) (j - i) ≡ bytes = omega (arith, before_drop zs i (j - i), ap (before zs) e, w.sizes) in
        let r : s ≤ sum (drop i ds) = omega (arith, sum_drop ds i, w.times, before_le ds j) in
        let x : drop 1 (drop i ds) ≡ drop (suc i) ds = drop-drop 1 i ds ∙ ap (λ (k : ℕ). drop k ds) f in
        let y : drop 1 (drop i zs) ≡ drop (suc i) zs = drop-drop 1 i zs ∙ ap (λ (k : ℕ). drop k zs) f in
        best_opened s i (drop i ds) (drop i zs) p r
        ∙ ap (λ (n : ℕ). better (rated_run s i n (before (drop i zs) n) (before (drop i ds) n)) (best_from s (suc i) (drop 1 (drop i ds)) (drop 1 (drop i zs)))) length_is
        ∙ ap (λ (b : ℕ). better (rated_run s i (j - i) b (before (drop i ds) (j - i))) (best_from s (suc i) (drop 1 (drop i ds)) (drop 1 (drop i zs)))) z
        ∙ ap (λ (d : ℕ). better (rated_run s i (j - i) bytes d) (best_from s (suc i) (drop 1 (drop i ds)) (drop 1 (drop i zs)))) t
        ∙ ap (λ (m : List ℕ). better (rated_run s i (j - i) bytes span) (best_from s (suc i) m (drop 1 (drop i zs)))) x
        ∙ ap (λ (m : List ℕ). better (rated_run s i (j - i) bytes span) (best_from s (suc i) (drop (suc i) ds) m)) y

  -- the head stands at the end and the window is too short: no further run gets there
  pub peak_end : span < s → length ds ≤ j → best_from s i (drop i ds) (drop i zs) ≡ no_run
  peak_end h l = best_none s i (drop i ds) (drop i zs) (omega (arith, sum_drop ds i, w.times, before_all ds j l))

  -- one sample more at the head; one sample less at the tail
  pub one-more : span < s → Sliding s ds zs i (suc j) (span + get_or ds j 0) (bytes + get_or zs j 0)
  one-more h = record {
    order = omega (arith, w.order);
    times = omega (arith, w.times, before_suc ds j);
    sizes = omega (arith, w.sizes, before_suc zs j);
    short = λ l. let e : suc j - 1 ≡ j = omega arith in omega (arith, ap (before ds) e, w.times);
  }

  pub one_less : s ≤ span → Sliding s ds zs (suc i) j (span - get_or ds i 0) (bytes - get_or zs i 0)
  one_less h = record {
    order = some_run h;
    times = omega (arith, w.times, before_suc ds i, before_mono ds (suc i) j (some_run h));
    sizes = omega (arith, w.sizes, before_suc zs i, before_mono zs (suc i) j (some_run h));
    short = λ l. omega (arith, before_suc ds i, w.short (omega arith));
  }

  -- what is taken away was there
  pub enough : s ≤ span → (get_or ds i 0 ≤ span) × (get_or zs i 0 ≤ bytes)
  enough h = (
    omega (arith, w.times, before_suc ds i, before_mono ds (suc i) j (some_run h)),
    omega (arith, w.sizes, before_suc zs i, before_mono zs (suc i) j (some_run h)),
  )

-- ---- a cursor at an end of the window

pub at_cons : (ds : List ℕ) (j x : ℕ) (l : List ℕ) → drop j ds ≡ x ∷ l → (get_or ds j 0 ≡ x) × (drop (suc j) ds ≡ l) × (j < length ds)
at_cons [] zero x l e = let z : ◌≡◌ {A = ℕ} 0 1 = cc in absurd (omega arith)
at_cons [] (suc j) x l e = let z : ◌≡◌ {A = ℕ} 0 1 = cc in absurd (omega arith)
at_cons (d ∷ ds) zero x l e = (cc, cc, omega arith)
at_cons (d ∷ ds) (suc j) x l e = let r = at_cons ds j x l e in (r.0, r.1, omega (arith, r.2))

at_nil : (ds : List ℕ) (j : ℕ) → drop j ds ≡ [] → length ds ≤ j
at_nil ds j e = omega (arith, length-drop j ds, ap length e)

-- a cursor before the sample with index j: it has its duration, and past it lies what follows
module _ (t : List ℕ) (j : ℕ) (c : RunCursor) (h : Before t j c) where
  pub before_none : c.count ≡ 0 → length (per_sample t) ≤ j
  before_none z = at_nil (per_sample t) j (sym h.ahead ∙ h.stands.none z)

  pub before_some : j < length (per_sample t) → 0 < c.count
  before_some l = elim (ℕ_discrete c.count 0) [
    | yes z ↦ absurd (omega (arith, before_none z))
    | no z ↦ omega arith
  ]

  pub before_ready : (r : RunCursor) → r ≡ readied_run t c → Before t j r
  before_ready r e = rw e (record { ahead = (run_same t c).samples ∙ h.ahead; stands = (run_same t c).stands })

  pub before_at : 0 < c.count → (get_or (per_sample t) j 0 ≡ c.each) × (run_ahead t (past_run 1 c) ≡ drop (suc j) (per_sample t)) × (j < length (per_sample t))
  before_at l =
      let q = at_cons (per_sample t) j c.each (run_ahead t (past_run 1 c)) (sym h.ahead ∙ run_cons t c l) in
      (q.0, sym q.1, q.2)

-- the cursor that was passed on and made ready
pub before_next : (t : List ℕ) (j : ℕ) (c : RunCursor) → run_ahead t c ≡ drop j (per_sample t) → Before t j (readied_run t c)
before_next t j c a = record { ahead = (run_same t c).samples ∙ a; stands = (run_same t c).stands }

-- ---- the window of the tables

pub slides_start : (s : ℕ) (t z : List ℕ) → Slides s t z (start_window t)
slides_start s t z =
    let c = before_next t 0 start_run (run_start t) in
    record {
      tail = c;
      head = c;
      run = record { order = omega arith; times = refl; sizes = refl; short = λ l. absurd (omega arith) };
      few = omega arith;
      low = omega arith;
    }

module _ (s : ℕ) (t z : List ℕ) (p : 0 < s) (w : Window) (h : Slides s t z w) where
  pub slides_grown : (size : ℕ) → w.span < s → 0 < w.head.count → size ≡ get_or (sizes z) w.stop 0 → size < 4294967296 → Slides s t z (grown_by t size w)
  slides_grown size l n q b =
      let a = before_at t w.stop w.head h.head n in
      let g = one-more s (per_sample t) (sizes z) w.first w.stop w.span w.bytes p h.run l in
      record {
        tail = h.tail;
        head = rw (add-one w.stop) (before_next t (suc w.stop) (past_run 1 w.head) a.1);
        run = rw (add-one w.stop, ← a.0, q) g;
        few = omega (arith, a.2);
        low = omega (arith, h.low, b);
      }

  -- one sample less at the tail, and past it
  module _ (l : s ≤ w.span) where
    some : w.first < w.stop
    some = some_run s (per_sample t) (sizes z) w.first w.stop w.span w.bytes p h.run l

    pub tail_stands : 0 < w.tail.count
    tail_stands = before_some t w.first w.tail h.tail (omega (arith, some, h.few))

    taken : (get_or (per_sample t) w.first 0 ≤ w.span) × (get_or (sizes z) w.first 0 ≤ w.bytes)
    taken = enough s (per_sample t) (sizes z) w.first w.stop w.span w.bytes p h.run l

    pub tail_fits : w.tail.each ≤ w.span
    tail_fits = omega (arith, (before_at t w.first w.tail h.tail tail_stands).0, taken.0)

    pub bytes_fit : (size : ℕ) → size ≡ get_or (sizes z) w.first 0 → size ≤ w.bytes
    bytes_fit size q = omega (arith, taken.1)

    pub slides_shrunk : (c r : RunCursor) (size : ℕ) → c ≡ past_run 1 w.tail → r ≡ readied_run t c → size ≡ get_or (sizes z) w.first 0
        → Slides s t z (record { tail = r; head = w.head; first = w.first + 1; stop = w.stop; span = w.span - w.tail.each; bytes = w.bytes - size })
    slides_shrunk c r size k e q =
        let a = before_at t w.first w.tail h.tail tail_stands in
        let g = one_less s (per_sample t) (sizes z) w.first w.stop w.span w.bytes p h.run l in
        record {
          tail = rw (e, k, add-one w.first) (before_next t (suc w.first) (past_run 1 w.tail) a.1);
          head = h.head;
          run = rw (add-one w.first, ← a.0, q) g;
          few = h.few;
          low = omega (arith, h.low);
        }
