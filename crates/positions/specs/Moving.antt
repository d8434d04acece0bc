-- The places in all tables of a track before one of its samples.
use Rattle.std.specs.Prelude.{ℕ, ◌+◌, ◌<◌, ◌^◌, ◌≡◌, Bool, true, cond, ◌&&◌, Option, Some, None, List, length, get_or, drop, ltb}
use Rattle.bigendian.specs.BigEndian.{u32_at}
use Rattle.lists.specs.Lists.{sum, before}
use Rattle.runs.specs.Runs.{per_sample}
use Rattle.runs.specs.Cursors.{run_ahead, readied_run, past_run}
use Rattle.words.specs.Words.{sizes, chunk_offsets, syncs_agree}
use Rattle.chunks.specs.Chunks.{per_chunk, offset_of}
use Rattle.positions.specs.Dealing.{DealtAt, readied_dealt, may_deal, past_dealt}
use Rattle.positions.specs.Syncs.{SyncAt}
use Rattle.positions.specs.declared.moving.Moving.{Moving}

-- the sample tables of a track, as their bytes
pub record Bytes : Type 0 where
  pub stts : List ℕ
  pub ctts : List ℕ
  pub stsc : List ℕ
  pub stsz : List ℕ
  pub offsets : List ℕ
  pub stss : List ℕ

-- of n samples the first k are passed: each place has ahead what the table says from sample k on
pub record StandsAt (x : Bytes) (n k : ℕ) (m : Moving) : Type 0 where
  pub index : m.index ≡ k
  pub decode : m.decode ≡ before (per_sample x.stts) k
  pub times : run_ahead x.stts m.times ≡ drop k (per_sample x.stts)
  pub shifts : run_ahead x.ctts m.shifts ≡ drop k (per_sample x.ctts)
  pub dealt : DealtAt x.stsc (u32_at x.offsets 12) (chunk_offsets x.offsets) (sizes x.stsz) k m.dealt
  pub sync : SyncAt x.stss n k m.sync

-- what the tables of an accepted track have, of n samples: this is asked between the crates' own functions
pub record Agrees (x : Bytes) (n : ℕ) : Type 0 where
  pub counted : length (per_sample x.stts) ≡ n
  pub total : sum (per_sample x.stts) < 4294967296
  pub full : length (per_chunk x.stsc (u32_at x.offsets 12)) ≡ u32_at x.offsets 12
  pub some : (c : ℕ) → c < u32_at x.offsets 12 → 0 < get_or (per_chunk x.stsc (u32_at x.offsets 12)) c 0
  pub dealt : sum (per_chunk x.stsc (u32_at x.offsets 12)) ≡ n
  pub low : (i : ℕ) → i < n → offset_of (per_chunk x.stsc (u32_at x.offsets 12)) (chunk_offsets x.offsets) (sizes x.stsz) i < 2 ^ 63
  pub syncs : syncs_agree x.stss n ≡ true

-- ---- as the code has it. This need not be believed: the laws of `proofs/Standing.antt` are what callers go by

abbrev pub readied_moving : List ℕ → List ℕ → List ℕ → List ℕ → Moving → Moving
readied_moving stts ctts stsc offsets m =
    record {
      index = m.index;
      decode = m.decode;
      times = readied_run stts m.times;
      shifts = readied_run ctts m.shifts;
      dealt = readied_dealt stsc offsets (u32_at offsets 12) m.dealt;
      sync = m.sync;
    }

abbrev pub may_move : Moving → Bool
may_move m = ltb m.decode 4294967296 && may_deal m.dealt

-- places with the entries read, where they may be moved
abbrev pub to_move : Moving → Option Moving
to_move m = cond (may_move m) (Some m) None

abbrev pub past_moving : ℕ → ℕ → Moving → Moving
past_moving size sync m =
    record {
      index = m.index + 1;
      decode = m.decode + m.times.each;
      times = past_run 1 m.times;
      shifts = past_run 1 m.shifts;
      dealt = past_dealt size m.dealt;
      sync = sync;
    }
