-- What one pass keeps: the window, which is the run of the sample at its tail, and the best run so far. This need not be believed: it is between the
-- crates' own functions.
use Rattle.std.specs.Prelude.{ℕ, suc, ◌+◌, ◌-◌, ◌*◌, ◌≤◌, ◌<◌, ◌≡◌, Bool, false, cond, ◌&&◌, List, [], ◌∷◌, length, take, drop, ltb, leb, eqb, Option, Some, None}
use Rattle.bigendian.specs.BigEndian.{u32_at}
use Rattle.lists.specs.Lists.{sum, before}
use Rattle.runs.specs.Runs.{per_sample}
use Rattle.runs.specs.Cursors.{run_ahead, RunStands, start_run, readied_run, past_run}
use Rattle.runs.specs.declared.cursor.RunCursor.{RunCursor}
use Rattle.words.specs.Words.{sizes}
use Rattle.rates.specs.Rates.{rate_of}
use Rattle.windows.specs.Lengths.{run_length}
use Rattle.windows.specs.declared.Window.{Window}
use Rattle.windows.specs.declared.RatedRun.{RatedRun}

-- ---- what an accepted track's time scale, durations and sizes are
pub record Timed (s : ℕ) (ds zs : List ℕ) : Type 0 where
  pub some_scale : 0 < s
  pub total_fits : sum ds < 4294967296
  pub few : length ds ≤ 1048576
  pub agree : length zs ≡ length ds

-- ---- the window

-- the samples from index i up to, not including, j: their durations come to span, their sizes to bytes, and without the last of them they don't
-- reach s
pub record Sliding (s : ℕ) (ds zs : List ℕ) (i j span bytes : ℕ) : Type 0 where
  pub order : i ≤ j
  pub times : before ds i + span ≡ before ds j
  pub sizes : before zs i + bytes ≡ before zs j
  pub short : i < j → before ds (j - 1) < before ds i + s

-- before the first sample
abbrev pub start_window : List ℕ → Window
start_window t = record { tail = readied_run t start_run; head = readied_run t start_run; first = 0; stop = 0; span = 0; bytes = 0 }

-- one sample more at the head, by its size
abbrev pub grown_by : List ℕ → ℕ → Window → Window
grown_by t size w =
    record {
      tail = w.tail;
      head = readied_run t (past_run 1 w.head);
      first = w.first;
      stop = w.stop + 1;
      span = w.span + w.head.each;
      bytes = w.bytes + size;
    }

-- a cursor before the sample with index i, ready to be read
pub record Before (t : List ℕ) (i : ℕ) (c : RunCursor) : Type 0 where
  pub ahead : run_ahead t c ≡ drop i (per_sample t)
  pub stands : RunStands t c

-- a window of these tables, with a cursor at each end
pub record Slides (s : ℕ) (t z : List ℕ) (w : Window) : Type 0 where
  pub tail : Before t w.first w.tail
  pub head : Before t w.stop w.head
  pub run : Sliding s (per_sample t) (sizes z) w.first w.stop w.span w.bytes
  pub few : w.stop ≤ length (per_sample t)
  pub low : w.bytes ≤ w.stop * 4294967295

-- a window from index i on that reaches s, or has all samples from there on
pub record Reaches (s : ℕ) (t z : List ℕ) (i : ℕ) (w : Window) : Type 0 where
  pub slides : Slides s t z w
  pub from : w.first ≡ i
  pub all : w.span < s → length (per_sample t) ≤ w.stop

-- ---- the best run

-- the run of the sample with index i, by its rate, how many samples it has, their bytes and their span
abbrev pub rated_as : Option ℕ → ℕ → ℕ → ℕ → ℕ → Option RatedRun
rated_as (Some v) i n bytes span = Some (record { rate = v; first = i + 1; count = n; bytes = bytes; span = span })
rated_as None i n bytes span = None

abbrev pub rated_run : ℕ → ℕ → ℕ → ℕ → ℕ → Option RatedRun
rated_run s i n bytes span = rated_as (rate_of (8 * bytes * s) span) i n bytes span

-- the better of two, the first of them the earlier: the first, unless the rate of the second is higher
abbrev pub better : Option RatedRun → Option RatedRun → Option RatedRun
better (Some a) (Some b) = cond (ltb a.rate b.rate) (Some b) (Some a)
better (Some a) None = None
better None b = None

-- none of the runs that get there
abbrev pub no_run : Option RatedRun
no_run = Some (record { rate = 0; first = 0; count = 0; bytes = 0; span = 0 })

-- the best of the runs that get there, the first sample's index being i
abbrev pub best_from : ℕ → ℕ → List ℕ → List ℕ → Option RatedRun
best_from s i [] zs = no_run
best_from s i (d ∷ ds) zs =
    cond (leb s (sum (d ∷ ds)))
    (better
    (rated_run s i (run_length s (d ∷ ds)) (sum (take (run_length s (d ∷ ds)) zs)) (sum (take (run_length s (d ∷ ds)) (d ∷ ds))))
    (best_from s (suc i) ds (drop 1 zs)))
    (best_from s (suc i) ds (drop 1 zs))

unfoldable pub best_of : ℕ → List ℕ → List ℕ → Option RatedRun
best_of s ds zs = cond (ltb (sum ds) s) (rated_run s 0 (length ds) (sum zs) (sum ds)) (best_from s 0 ds zs)

-- whether it is told in 64 bits that so many bytes in so long are no more a second than another run's, by cross-multiplication
unfoldable pub no_higher : ℕ → ℕ → RatedRun → Bool
no_higher bytes span other =
    cond (ltb 4294967295 bytes) false (cond (ltb 4294967295 other.bytes) false (leb (bytes * other.span) (other.bytes * span)))

-- whether a window that lasts `rest` without its last sample is the run of its first one, for a scale s, and no higher than the best run
unfoldable pub no_higher_run : ℕ → ℕ → ℕ → ℕ → RatedRun → Bool
no_higher_run rest span bytes s best = cond (leb s rest) false (cond (ltb span s) false (no_higher bytes span best))

-- whether two entries of stts have one sample each
unfoldable pub are_single : List ℕ → List ℕ → Bool
are_single a b = eqb (u32_at a 0) 1 && eqb (u32_at b 0) 1

-- a best run whose rate is that of its bytes and its span
abbrev pub IsRated : ℕ → Option RatedRun → Type 0
IsRated s x = (b : RatedRun) → x ≡ Some b → (rate_of (8 * b.bytes * s) b.span ≡ Some b.rate) × (b.span < 4294967296)

-- the best run so far and that of a window
pub record Raises (s : ℕ) (x : Option RatedRun) (w : Window) (r : Option RatedRun) : Type 0 where
  pub kept : r ≡ better x (rated_run s w.first (w.stop - w.first) w.bytes w.span)
  pub rated : IsRated s r
