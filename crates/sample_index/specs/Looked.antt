-- Lookups by the checkpoints of all three tables. This need not be believed: it is between the crate's own functions.
use Rattle.std.specs.Prelude.{ℕ, ◌+◌, ◌*◌, ◌≤◌, ◌<◌, ◌^◌, ◌≡◌, true, List, length, get_or, drop, Result, Ok, Err}
use Rattle.lists.specs.Lists.{sum}
use Rattle.runs.specs.Runs.{runs_of, per_sample}
use Rattle.words.specs.Words.{sizes, syncs_agree}
use Rattle.chunks.specs.Chunks.{per_chunk}
use Rattle.places.specs.Places.{part_in}
use Rattle.questions.specs.Said.{said_in}
use Rattle.questions.specs.declared.samples.Sample.{Sample}
use Rattle.refusals.specs.declared.Refusal.{Refusal}
use Rattle.refusals.specs.declared.Refusal.TheVariants.{Outside}
use Rattle.opened.specs.declared.Opened.{Opened}
use Rattle.checkpoints.specs.Points.{CountsAt, TotalsAt}
use Rattle.chunk_lookups.specs.From.{deal_runs}

-- the checkpoints are those of the tables at the handle's parts, and the tables are as an accepted track has them
pub record Points (s : List ℕ) (h : Opened) (index : List ℕ) (count : ℕ) : Type 0 where
  pub counts : CountsAt (runs_of (part_in s h.tables.stts)) index count
  pub totals : TotalsAt (runs_of (part_in s h.tables.stts)) index count
  pub shifts : CountsAt (runs_of (part_in s h.tables.ctts)) (drop (2 * count) index) count
  pub chunks : CountsAt (deal_runs (part_in s h.tables.stsc) h.chunks) (drop (4 * count) index) count
  pub dealt : TotalsAt (deal_runs (part_in s h.tables.stsc) h.chunks) (drop (4 * count) index) count
  pub total_low : sum (per_sample (part_in s h.tables.stts)) < 2 ^ 64
  pub chunks_low : length (per_chunk (part_in s h.tables.stsc) h.chunks) < 2 ^ 64
  pub short : length (part_in s h.tables.stsc) < 2 ^ 32
  pub samples : ℕ
  pub syncs : syncs_agree (part_in s h.tables.stss) samples ≡ true

pub record LookedUp (s : List ℕ) (h : Opened) (index : List ℕ) (count k : ℕ) (r : Result Sample Refusal) : Type 0 where
  pub right : Points s h index count
      → r ≡ said_in (part_in s h.tables.stts) (part_in s h.tables.ctts) (part_in s h.tables.stsc) (part_in s h.tables.stsz)
      (part_in s h.tables.offsets) (part_in s h.tables.stss) h.chunks k
  pub elsewhere : (e : Refusal) → r ≡ Err e → e ≡ Outside
  pub low : (x : Sample) → r ≡ Ok x → (x.decode < 2 ^ 32) × (x.chunk ≤ h.chunks) × (x.offset < 2 ^ 63)
  pub size : (x : Sample) → r ≡ Ok x → x.size ≡ get_or (sizes (part_in s h.tables.stsz)) k 0
