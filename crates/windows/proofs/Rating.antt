-- A window's run with its rate, and the better of it and the best run so far.
-- Assumes nothing.
use Rattle.std.specs.Prelude.{Option, Some, None}
use Prim.Native.Nat.{ℕ, ◌+◌, ◌-◌, ◌*◌, ◌≤◌, ◌<◌}
use mathlib.Core.Path.{◌≡◌, sym, ap, ◌∙◌}
use mathlib.Core.List.{List}
use native.Mathlib.Omega.{arith}
use Rattle.lists.proofs.Places.{before_le}
use Rattle.rates.specs.Rates.{rate_of}
use Rattle.rates.proofs.Orders.{eightfold}
use Rattle.runs.specs.Runs.{per_sample}
use Rattle.words.specs.Words.{sizes}
use Rattle.windows.specs.Windows.{Timed}
use Rattle.windows.specs.declared.Window.{Window}
use Rattle.windows.specs.declared.RatedRun.{RatedRun}
use Rattle.windows.specs.Windows.{Slides, rated_as, rated_run, better, IsRated, Raises}
use Rattle.windows.proofs.Bests.{better_first, better_second, better_kept}

-- ---- a window's run with its rate

uncomputed_rated : (s : ℕ) → IsRated s None
uncomputed_rated s b e = let z : ◌≡◌ {A = ℕ} 0 1 = cc in absurd (omega arith)

module _ (s i n bytes span : ℕ) (f : Option ℕ) (e : f ≡ rate_of (bytes * (8 * s)) span) where
  is_rate : f ≡ rate_of (8 * bytes * s) span
  is_rate = e ∙ ap (λ (x : ℕ). rate_of x span) (eightfold bytes s)

  pub rated_some : (v : ℕ) → span < 4294967296 → f ≡ Some v
      → (Some (record { rate = v; first = i + 1; count = n; bytes = bytes; span = span }) ≡ rated_run s i n bytes span)
      × IsRated s (Some (record { rate = v; first = i + 1; count = n; bytes = bytes; span = span }))
  rated_some v h g =
      let r : rate_of (8 * bytes * s) span ≡ Some v = sym is_rate ∙ g in (
        ap (λ (x : Option ℕ). rated_as x i n bytes span) (sym r),
        λ b q. let k : record { rate = v; first = i + 1; count = n; bytes = bytes; span = span } ≡ b = cc in rw (← k) (r, h),
      )

  pub rated_none : f ≡ None → (None ≡ rated_run s i n bytes span) × IsRated s None
  rated_none g = (ap (λ (x : Option ℕ). rated_as x i n bytes span) (sym g ∙ is_rate), uncomputed_rated s)

-- ---- the best run so far and that of a window

module _ (s : ℕ) (x : Option RatedRun) (w : Window) (h : IsRated s x) where
  abbrev here : Option RatedRun
  here = rated_run s w.first (w.stop - w.first) w.bytes w.span

  pub raised_none : x ≡ None → Raises s x w None
  raised_none e = record { kept = rw e; rated = uncomputed_rated s }

  module _ (b : RatedRun) (e : x ≡ Some b) where
    pub raised_kept : 0 < w.span → w.span < 4294967296 → w.bytes * b.span ≤ b.bytes * w.span → Raises s x w (Some b)
    raised_kept p l k = record {
      kept = rw e (sym (better_kept s b w.first (w.stop - w.first) w.bytes w.span (h b e).0 p l k));
      rated = rw e at h;
    }

    pub raised_uncomputed : None ≡ here → Raises s x w None
    raised_uncomputed q = record { kept = rw e (ap (better (Some b)) q); rated = uncomputed_rated s }

    module _ (r : RatedRun) (q : Some r ≡ here) (g : IsRated s (Some r)) where
      pub raised_higher : b.rate < r.rate → Raises s x w (Some r)
      raised_higher l = record { kept = rw e (sym (better_second b r l) ∙ ap (better (Some b)) q); rated = g }

      pub raised_lower : r.rate ≤ b.rate → Raises s x w (Some b)
      raised_lower l = record { kept = rw e (sym (better_first b r l) ∙ ap (better (Some b)) q); rated = rw e at h }

-- ---- how long a window lasts fits 32 bits

pub span_fits : (s : ℕ) (t z : List ℕ) → Timed s (per_sample t) (sizes z) → (w : Window) → Slides s t z w → w.span < 4294967296
span_fits s t z k w h = omega (arith, k.total_fits, h.run.times, before_le (per_sample t) w.stop)
