-- The window slid on over samples of one duration at both ends: it lasts as long as before, and the runs that are passed over are no higher than
-- the best. This need not be believed: it is between the crate's own functions.
use Rattle.std.specs.Prelude.{ℕ, suc, ◌+◌, ◌-◌, ◌*◌, ◌≤◌, ◌<◌, ◌≡◌, List, length, drop, Option, Some, None}
use Rattle.lists.specs.Lists.{before}
use Rattle.runs.specs.Runs.{per_sample}
use Rattle.runs.specs.Cursors.{readied_run, past_run}
use Rattle.words.specs.Words.{sizes}
use Rattle.windows.specs.declared.Window.{Window}
use Rattle.peaks.specs.declared.Slide.{Slide}
use Rattle.peaks.specs.declared.Peak.{Peak}
use Rattle.windows.specs.Windows.{Slides, rated_run, better, best_from}
use Rattle.windows.specs.declared.RatedRun.{RatedRun}

-- sizes ts that leave a window at its tail and hs that enter it at its head: none leaves that is not in it
pub record Stays (ts hs : List ℕ) (bytes most : ℕ) : Type 0 where
  pub held : (k : ℕ) → k < length hs → before ts (suc k) ≤ bytes + before hs k
  pub low : bytes ≤ most
  pub fits : bytes < 4611686018427387904
  pub few : length hs ≤ 1048576

pub record SlidOver (ts hs : List ℕ) (bytes most : ℕ) (r : Slide) : Type 0 where
  pub within : r.moved ≤ length hs
  pub total : r.bytes + before ts r.moved ≡ bytes + before hs r.moved
  pub low : (k : ℕ) → k ≤ r.moved → bytes + before hs k ≤ most + before ts k
  pub step : r.bytes ≤ bytes + r.moved * 4294967295

-- the sizes of a window from index i up to, not including, j, and n more
pub record MaySlide (zs : List ℕ) (i j n bytes most : ℕ) : Type 0 where
  pub order : i < j
  pub sizes : before zs i + bytes ≡ before zs j
  pub few : j + n ≤ length zs
  pub low : bytes ≤ most
  pub fits : bytes < 4611686018427387904
  pub small : n ≤ 1048576

pub record Slid (zs : List ℕ) (i j n bytes most : ℕ) (r : Slide) : Type 0 where
  pub within : r.moved ≤ n
  pub sizes : before zs (i + r.moved) + r.bytes ≡ before zs (j + r.moved)
  pub low : (k : ℕ) → k ≤ r.moved → before zs (j + k) ≤ before zs (i + k) + most
  pub step : r.bytes ≤ bytes + r.moved * 4294967295

-- so many samples have one duration at both ends, and the next window does not reach without one of them
pub record Levels (s : ℕ) (w : Window) (n : ℕ) : Type 0 where
  pub tails : n ≤ w.tail.count
  pub heads : n ≤ w.head.count
  pub same : 0 < n → w.tail.each ≡ w.head.each
  pub short : 0 < n → w.span < s + w.tail.each

abbrev pub slid_by : List ℕ → Slide → Window → Window
slid_by t x w =
    record {
      tail = readied_run t (past_run x.moved w.tail);
      head = readied_run t (past_run x.moved w.head);
      first = w.first + x.moved;
      stop = w.stop + x.moved;
      span = w.span;
      bytes = x.bytes;
    }

-- the run of a window is no higher than the best one
abbrev pub Absorbs : ℕ → Option RatedRun → Window → Type 0
Absorbs s x w = better x (rated_run s w.first (w.stop - w.first) w.bytes w.span) ≡ x

-- from one window to a later one no run is higher than the best one
pub record Skips (s : ℕ) (t z : List ℕ) (x : Option RatedRun) (w r : Window) : Type 0 where
  pub slides : Slides s t z r
  pub reaches : s ≤ r.span
  pub absorbs : Absorbs s x r
  pub later : w.first ≤ r.first
  pub kept : better x (best_from s w.first (drop w.first (per_sample t)) (drop w.first (sizes z)))
      ≡ better x (best_from s r.first (drop r.first (per_sample t)) (drop r.first (sizes z)))

-- ---- the best run as the answer

abbrev pub to_peak : Option RatedRun → Option Peak
to_peak (Some b) = Some (record { rate = b.rate; first = b.first; count = b.count })
to_peak None = None
