-- From a window to the one that it slides to: each between them is the shortest run of its sample, and no higher than the best run.
-- Assumes nothing.
use Rattle.std.specs.Prelude.{Option, Some}
use Prim.Native.Nat.{ℕ, zero, suc, ◌+◌, ◌-◌, ◌*◌, ◌≤◌, ◌<◌}
use mathlib.Core.Path.{◌≡◌, refl, sym, ap, ◌∙◌}
use mathlib.Core.List.{List}
use native.Mathlib.Omega.{arith}
use native.Mathlib.Nat.{mul-le-mul_right, suc-mul}
use lib.ListN.{length, drop, length-drop}
use lib.Seq.{drop-drop}
use Rattle.lists.specs.Lists.{before, expand}
use Rattle.lists.proofs.Laws.{before_in, length_run}
use Rattle.lists.proofs.Places.{before_mono, before_drop}
use Rattle.rates.specs.Rates.{rate_of}
use Rattle.runs.specs.Runs.{runs_in, per_sample}
use Rattle.runs.specs.Cursors.{run_ahead, readied_run, past_run}
use Rattle.runs.specs.declared.cursor.RunCursor.{RunCursor}
use Rattle.runs.proofs.Cursors.{run_past}
use Rattle.words.specs.Words.{sizes}
use Rattle.windows.specs.declared.Window.{Window}
use Rattle.windows.specs.declared.RatedRun.{RatedRun}
use Rattle.peaks.specs.declared.Slide.{Slide}
use Rattle.windows.specs.Windows.{Timed}
use Rattle.windows.specs.Windows.{Sliding, Before, Slides, rated_run, better, best_from}
use Rattle.peaks.specs.Slides.{MaySlide, Slid, Levels, slid_by, Absorbs, Skips}
use Rattle.windows.proofs.Bests.{better_assoc, better_kept}
use Rattle.windows.proofs.Sliding.{some_run, peak_here, before_next}
use Rattle.windows.proofs.Rating.{span_fits}

-- ---- a cursor in a run: the durations ahead

module _ (t : List ℕ) (i : ℕ) (c : RunCursor) (h : Before t i c) (k : ℕ) (l : k ≤ c.count) where
  pub run_times : before (per_sample t) (i + k) ≡ before (per_sample t) i + k * c.each
  unfolding run_ahead
  run_times =
      let e = ap (λ (x : List ℕ). before x k) h.ahead in
      omega (arith, before_drop (per_sample t) i k, e, before_in c.each (expand (runs_in (drop c.at t))) c.count k l)

  pub run_length : i ≤ length (per_sample t) → i + k ≤ length (per_sample t)
  unfolding run_ahead
  run_length g =
      omega (arith, length-drop i (per_sample t), ap length h.ahead, length_run c.each (expand (runs_in (drop c.at t))) c.count)

  pub run_moved : Before t (i + k) (readied_run t (past_run k c))
  run_moved = before_next t (i + k) (past_run k c) (run_past t c k l ∙ ap (drop k) h.ahead ∙ drop-drop k i (per_sample t))

-- ---- a window that may slide

module _ (s : ℕ) (t z : List ℕ) (k : Timed s (per_sample t) (sizes z)) (w : Window) (h : Slides s t z w) (r : s ≤ w.span) (n most : ℕ) (l : Levels s w n) where
  pub may_slide : w.bytes ≤ most → MaySlide (sizes z) w.first w.stop n w.bytes most
  may_slide b = record {
    order = some_run s (per_sample t) (sizes z) w.first w.stop w.span w.bytes k.some_scale h.run r;
    sizes = h.run.sizes;
    few = omega (arith, k.agree, run_length t w.stop w.head h.head n l.heads h.few);
    low = b;
    fits = omega (arith, h.low, h.few, k.few);
    small = omega (arith, k.few, run_length t w.stop w.head h.head n l.heads h.few);
  }

  module _ (x : Slide) (o : Slid (sizes z) w.first w.stop n w.bytes most x) where
    abbrev Window-at : ℕ → ℕ → Type 0
    Window-at i b = Sliding s (per_sample t) (sizes z) (w.first + i) (w.stop + i) w.span b

    window_at : (i b : ℕ) → i ≤ x.moved → before (sizes z) (w.first + i) + b ≡ before (sizes z) (w.stop + i) → Window-at i b
    window_at zero b g e =
        let a : w.first + 0 ≡ w.first = omega arith in
        let c : w.stop + 0 ≡ w.stop = omega arith in
        record {
          order = omega (arith, h.run.order);
          times = rw (a, c) h.run.times;
          sizes = e;
          short = λ q. rw (a, c) (h.run.short (omega arith));
        }
    window_at (suc i) b g e =
        let m : 0 < n = omega (arith, o.within) in
        let f = run_times t w.first w.tail h.tail (suc i) (omega (arith, o.within, l.tails)) in
        let u = run_times t w.stop w.head h.head (suc i) (omega (arith, o.within, l.heads)) in
        let v = run_times t w.stop w.head h.head i (omega (arith, o.within, l.heads)) in
        let d : w.stop + suc i - 1 ≡ w.stop + i = omega arith in
        let y = l.same m in
        let p = ap (λ (q : ℕ). suc i * q) y in
        record {
          order = omega (arith, h.run.order);
          times = omega (arith, h.run.times);
          sizes = e;
          short = λ q. omega (arith, ap (before (per_sample t)) d, h.run.times, l.short m, suc-mul i w.tail.each, suc-mul i w.head.each);
        }

    module _ (b : RatedRun) (a : rate_of (8 * b.bytes * s) b.span ≡ Some b.rate) (c : most * b.span ≤ b.bytes * w.span) where
      absorbed : (i y : ℕ) → i ≤ x.moved → before (sizes z) (w.first + i) + y ≡ before (sizes z) (w.stop + i)
          → better (Some b) (rated_run s (w.first + i) (w.stop + i - (w.first + i)) y w.span) ≡ Some b
      absorbed i y g e =
          let q : y ≤ most = omega (arith, o.low i g) in
          let v = mul-le-mul_right b.span q in
          better_kept s b (w.first + i) (w.stop + i - (w.first + i)) y w.span a (omega (arith, k.some_scale)) (span_fits s t z k w h) (omega arith)

      kept : (i : ℕ) → i ≤ x.moved → better (Some b) (best_from s w.first (drop w.first (per_sample t)) (drop w.first (sizes z)))
          ≡ better (Some b) (best_from s (w.first + i) (drop (w.first + i) (per_sample t)) (drop (w.first + i) (sizes z)))
      kept zero g =
          let e : w.first ≡ w.first + 0 = omega arith in
          ap (λ (f : ℕ). better (Some b) (best_from s f (drop f (per_sample t)) (drop f (sizes z)))) e
      kept (suc i) g =
          let m : before (sizes z) (w.first + i) ≤ before (sizes z) (w.stop + i) = before_mono (sizes z) (w.first + i) (w.stop + i) (omega (arith, h.run.order)) in
          let y = before (sizes z) (w.stop + i) - before (sizes z) (w.first + i) in
          let e : before (sizes z) (w.first + i) + y ≡ before (sizes z) (w.stop + i) = omega arith in
          let v = window_at i y (omega arith) e in
          let u = peak_here s (per_sample t) (sizes z) (w.first + i) (w.stop + i) w.span y k.some_scale v r in
          let d : suc (w.first + i) ≡ w.first + suc i = omega arith in
          let rest = best_from s (suc (w.first + i)) (drop (suc (w.first + i)) (per_sample t)) (drop (suc (w.first + i)) (sizes z)) in
          kept i (omega arith)
          ∙ ap (better (Some b)) u
          ∙ sym (better_assoc (Some b) (rated_run s (w.first + i) (w.stop + i - (w.first + i)) y w.span) rest)
          ∙ ap (λ (f : Option RatedRun). better f rest) (absorbed i y (omega arith) e)
          ∙ ap (λ (f : ℕ). better (Some b) (best_from s f (drop f (per_sample t)) (drop f (sizes z)))) d

      pub skips : Skips s t z (Some b) w (slid_by t x w)
      skips = record {
        slides = record {
          tail = run_moved t w.first w.tail h.tail x.moved (omega (arith, o.within, l.tails));
          head = run_moved t w.stop w.head h.head x.moved (omega (arith, o.within, l.heads));
          run = window_at x.moved x.bytes (omega arith) o.sizes;
          few = run_length t w.stop w.head h.head x.moved (omega (arith, o.within, l.heads)) h.few;
          low = omega (arith, h.low, o.step);
        };
        reaches = r;
        absorbs = absorbed x.moved x.bytes (omega arith) o.sizes;
        later = omega arith;
        kept = kept x.moved (omega arith);
      }

-- a window that stays
pub skips_none : (s : ℕ) (t z : List ℕ) (x : Option RatedRun) (w : Window) → Slides s t z w → s ≤ w.span → Absorbs s x w → Skips s t z x w w
skips_none s t z x w h r a = record { slides = h; reaches = r; absorbs = a; later = omega arith; kept = refl }
