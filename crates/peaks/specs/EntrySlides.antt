-- The window slid on entry by entry, where stts has an entry for each sample. This need not be believed: it is between the crate's own functions.
use Rattle.std.specs.Prelude.{ℕ, ◌+◌, ◌-◌, ◌*◌, ◌^◌, ◌≤◌, ◌<◌, ◌≡◌, List, length}
use Rattle.bigendian.specs.BigEndian.{u32_at}
use Rattle.runs.specs.declared.cursor.RunCursor.{RunCursor}
use Rattle.windows.specs.declared.Window.{Window}
use Rattle.peaks.specs.declared.EntrySlide.{EntrySlide}

-- the cursor so many entries further on, in an entry of one sample
abbrev pub further_on : RunCursor → ℕ → ℕ → RunCursor
further_on c entries each = record { at = c.at + entries * 8; count = 1; each = each }

-- where a window has come to
abbrev pub window_at : Window → EntrySlide → Window
window_at w x =
    record {
      tail = further_on w.tail x.moved x.out;
      head = further_on w.head x.moved x.into;
      first = w.first + x.moved;
      stop = w.stop + x.moved;
      span = x.span;
      bytes = x.entered - x.left;
    }

-- both ends stand in entries of one sample, the tail not after the head, and sizes are listed
pub record HasEntries (t z : List ℕ) (w : Window) : Type 0 where
  pub tail : w.tail.count ≡ 1
  pub head : w.head.count ≡ 1
  pub order : w.tail.at ≤ w.head.at
  pub inside : w.head.at ≤ length t
  pub listed : u32_at z 12 ≡ 0

-- the numbers of that window fit
pub record MayStand (w : Window) (x : EntrySlide) : Type 0 where
  pub tail : w.tail.at + x.moved * 8 < 2 ^ 64
  pub head : w.head.at + x.moved * 8 < 2 ^ 64
  pub order : w.first ≤ w.stop
  pub stop : w.stop + x.moved < 4294967296
  pub held : x.left ≤ x.entered
