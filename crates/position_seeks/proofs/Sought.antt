-- The places sought stand before the sample, where the tables are those of an accepted track.
-- Assumes nothing.
use Prim.Native.Nat.{ℕ, ◌<◌}
use mathlib.Core.Path.{◌≡◌, refl, ap, ◌∙◌}
use mathlib.Core.List.{List}
use native.Mathlib.Omega.{arith}
use Rattle.bigendian.specs.BigEndian.{u32_at}
use Rattle.lists.specs.Lists.{before}
use Rattle.runs.specs.Runs.{per_sample, timing_of}
use Rattle.runs.specs.declared.Timing.{Timing}
use Rattle.runs.specs.declared.cursor.RunCursor.{RunCursor}
use Rattle.positions.specs.Runs.{sought_run}
use Rattle.positions.specs.Syncs.{sync_place}
use Rattle.positions.specs.Dealing.{sought_dealt}
use Rattle.positions.specs.Moving.{Bytes, StandsAt, Agrees}
use Rattle.positions.specs.declared.dealt.Dealt.{Dealt}
use Rattle.positions.specs.declared.moving.Moving.{Moving}
use Rattle.positions.proofs.Dealing.{dealt_sought}
use Rattle.positions.proofs.Standing.{stands_start}
use Rattle.position_seeks.specs.Seeks.{sought_moving}

module _ (x : Bytes) (k : ℕ) where
  -- from what the code has
  pub moving_made : (t : Timing) (times shifts : RunCursor) (d : Dealt) (h at : ℕ) → t ≡ timing_of (per_sample x.stts) k → times ≡ sought_run x.stts k → shifts ≡ sought_run x.ctts k
      → h ≡ u32_at x.offsets 12 → d ≡ sought_dealt x.stsc x.stsz x.offsets h k → at ≡ sync_place x.stss k
      → ◌≡◌ {A = Moving} (record { index = k; decode = t.start; times = times; shifts = shifts; dealt = d; sync = at }) (sought_moving x k)
  unfolding sought_moving timing_of
  moving_made t times shifts d h at et em es eh ed ea = rw (et, em, es, ed, eh, ea)

  pub moving_sought : (n : ℕ) → Agrees x n → k < n → StandsAt x n k (sought_moving x k)
  unfolding sought_moving
  moving_sought n g l =
      stands_start x n k g l _ _ _ _ _ refl refl refl
      (dealt_sought x.stsc x.stsz x.offsets (u32_at x.offsets 12) k (omega (arith, g.dealt)) (omega (arith, g.full)) (g.low k l))
      refl
