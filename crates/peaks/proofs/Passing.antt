-- What the pass keeps of the best run so far, step by step, and what it has at its end.
-- Assumes nothing.
use Rattle.std.specs.Prelude.{Option}
use Prim.Native.Nat.{ℕ, suc, ◌+◌, ◌-◌, ◌≤◌, ◌<◌}
use mathlib.Core.Path.{◌≡◌, refl, sym, ap, ◌∙◌}
use mathlib.Core.List.{List}
use native.Mathlib.Omega.{arith}
use native.Mathlib.Decide.{dec_lt}
use native.Mathlib.Numerals.{add-one}
use lib.ListN.{length, drop}
use borrow.Author.Tests.{lt-ltb, le-ltb}
use Rattle.lists.specs.Lists.{sum, before}
use Rattle.lists.proofs.Places.{before_le, before_all}
use Rattle.runs.specs.Runs.{per_sample}
use Rattle.words.specs.Words.{sizes}
use Rattle.windows.specs.Windows.{Timed}
use Rattle.windows.specs.declared.Window.{Window}
use Rattle.windows.specs.Windows.{Reaches, rated_run, better, no_run, best_from, best_of, IsRated, Raises}
use Rattle.peaks.specs.Slides.{Absorbs, Skips}
use Rattle.windows.proofs.Bests.{better_assoc, better_same, better_none, better_again}
use Rattle.windows.proofs.Sliding.{peak_here, peak_end}
use Rattle.windows.specs.declared.RatedRun.{RatedRun}

-- the run of the window is then no higher
pub raised_absorbs : (s : ℕ) (x : Option RatedRun) (w : Window) (y : Option RatedRun) → Raises s x w y → Absorbs s y w
raised_absorbs s x w y r =
    let here = rated_run s w.first (w.stop - w.first) w.bytes w.span in
    rw r.kept (better_assoc x here here ∙ ap (better x) (better_same here))

-- ---- the pass

-- the window of a sample, and the best of the runs before it; with those from it on, it is the best of all
pub record Passes (s : ℕ) (t z : List ℕ) (x : Option RatedRun) (w : Window) : Type 0 where
  pub reaches : Reaches s t z w.first w
  pub rated : IsRated s x
  pub kept : better x (best_from s w.first (drop w.first (per_sample t)) (drop w.first (sizes z))) ≡ best_of s (per_sample t) (sizes z)

module _ (s : ℕ) (t z : List ℕ) (k : Timed s (per_sample t) (sizes z)) where
  module _ (w : Window) (h : Reaches s t z 0 w) where
    whole_track : w.span < s → rated_run s w.first (w.stop - w.first) w.bytes w.span ≡ best_of s (per_sample t) (sizes z)
    unfolding best_of
    whole_track l =
        let g = h.slides.run in
        let j : w.stop ≡ length (per_sample t) = omega (arith, h.all l, h.slides.few) in
        let c : w.stop - w.first ≡ length (per_sample t) = omega (arith, h.from) in
        let d : w.span ≡ sum (per_sample t) = omega (arith, g.times, ap (before (per_sample t)) h.from, before_all (per_sample t) w.stop (omega arith)) in
        let b : w.bytes ≡ sum (sizes z) = omega (arith, g.sizes, ap (before (sizes z)) h.from, before_all (sizes z) w.stop (omega (arith, k.agree))) in
        let q : sum (per_sample t) < s = omega arith in
        rw (lt-ltb (sum (per_sample t)) s q, c, h.from, d, b)

    from_start : s ≤ w.span → best_from s w.first (drop w.first (per_sample t)) (drop w.first (sizes z)) ≡ best_of s (per_sample t) (sizes z)
    unfolding best_of
    from_start l =
        let q : s ≤ sum (per_sample t) = omega (arith, h.slides.run.times, before_le (per_sample t) w.stop) in
        rw (h.from, le-ltb (sum (per_sample t)) s q)

  -- the first window: it has the run of sample 1, or the whole track
  pub pass_start : (x : Option RatedRun) (w : Window) → Reaches s t z 0 w → x ≡ rated_run s w.first (w.stop - w.first) w.bytes w.span → IsRated s x → Passes s t z x w
  pass_start x w h e r = record {
    reaches = record { slides = h.slides; from = refl; all = h.all };
    rated = r;
    kept = elim (dec_lt w.span s) [
      | yes l ↦
          let n : best_from s w.first (drop w.first (per_sample t)) (drop w.first (sizes z)) ≡ no_run =
          peak_end s (per_sample t) (sizes z) w.first w.stop w.span w.bytes k.some_scale h.slides.run l (h.all l) in
          ap (better x) n ∙ better_none x ∙ e ∙ whole_track w h l
      | no l ↦
          let m : s ≤ w.span = omega arith in
          let u = peak_here s (per_sample t) (sizes z) w.first w.stop w.span w.bytes k.some_scale h.slides.run m in
          let b = best_from s (suc w.first) (drop (suc w.first) (per_sample t)) (drop (suc w.first) (sizes z)) in
          let v : best_from s w.first (drop w.first (per_sample t)) (drop w.first (sizes z)) ≡ better x b = u ∙ ap (λ (y : Option RatedRun). better y b) (sym e) in
          ap (better x) v ∙ better_again x b ∙ sym v ∙ from_start w h m
    ];
  }

  module _ (x : Option RatedRun) (w : Window) (h : Passes s t z x w) where
    -- to the window of a later sample, no run between them being higher than the best
    pub pass_next : s ≤ w.span → (y : Option RatedRun) (u v : Window) → Raises s x w y → Skips s t z y w u → Reaches s t z (u.first + 1) v → Passes s t z y v
    pass_next l y u v r g q =
        let i = w.first in
        let e : v.first ≡ suc u.first = q.from ∙ add-one u.first in
        let rest = best_from s (suc i) (drop (suc i) (per_sample t)) (drop (suc i) (sizes z)) in
        let here = rated_run s i (w.stop - i) w.bytes w.span in
        let a = peak_here s (per_sample t) (sizes z) i w.stop w.span w.bytes k.some_scale h.reaches.slides.run l in
        let b = peak_here s (per_sample t) (sizes z) u.first u.stop u.span u.bytes k.some_scale g.slides.run g.reaches in
        let after = best_from s (suc u.first) (drop (suc u.first) (per_sample t)) (drop (suc u.first) (sizes z)) in
        -- with this run, the best of those from it on, with it or without
        let c : better y (best_from s i (drop i (per_sample t)) (drop i (sizes z))) ≡ better x (best_from s i (drop i (per_sample t)) (drop i (sizes z))) =
        rw (a, r.kept) (better_assoc x here (better here rest) ∙ ap (better x) (better_again here rest)) in
        record {
          reaches = record { slides = q.slides; from = refl; all = q.all };
          rated = r.rated;
          kept =
              rw e
              (sym (ap (λ (f : Option RatedRun). better f after) g.absorbs)
              ∙ better_assoc y (rated_run s u.first (u.stop - u.first) u.bytes u.span) after
              ∙ ap (better y) (sym b)
              ∙ sym g.kept
              ∙ c
              ∙ h.kept);
        }

    pub pass_end : w.span < s → x ≡ best_of s (per_sample t) (sizes z)
    pass_end l =
        sym (better_none x)
        ∙ ap (better x) (sym (peak_end s (per_sample t) (sizes z) w.first w.stop w.span w.bytes k.some_scale h.reaches.slides.run l (h.reaches.all l)))
        ∙ h.kept
