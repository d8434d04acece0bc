-- The places in all tables: what is read before a sample changes nothing that lies ahead, and past the sample each place stands before the next one.
-- Assumes nothing.
use Prim.Native.Nat.{ℕ, suc, ◌+◌, ◌≤◌, ◌<◌, ◌^◌}
use mathlib.Core.Path.{◌≡◌, refl, sym, ◌∙◌}
use mathlib.Core.Bool.{Bool, true, false, cond}
use Rattle.std.specs.Prelude.{Some, None}
use native.Mathlib.Omega.{arith}
use borrow.Author.Tests.{lt-ltb, le-ltb, ltb-true}
use lib.Dec.{ltb}
use lib.ListN.{get_or}
use Rattle.bigendian.specs.BigEndian.{u32_at}
use Rattle.lists.specs.Lists.{sum, before, holder}
use Rattle.lists.proofs.Booleans.{and_left, and_right}
use Rattle.lists.proofs.Places.{before_suc, before_le}
use Rattle.runs.specs.Runs.{per_sample, composition_offset}
use Rattle.runs.specs.Cursors.{readied_run}
use Rattle.runs.specs.declared.cursor.RunCursor.{RunCursor}
use Rattle.runs.proofs.Cursors.{run_same}
use Rattle.words.specs.Words.{sizes, chunk_offsets, syncs, listed}
use Rattle.chunks.specs.Chunks.{per_chunk, description_ids, offset_of}
use Rattle.positions.specs.Runs.{sought_run, shift_of}
use Rattle.positions.specs.Syncs.{sync_place, sync_step}
use Rattle.positions.specs.Dealing.{DealtAt, may_deal, ahead_of}
use Rattle.positions.specs.Moving.{Bytes, StandsAt, Agrees, readied_moving, may_move, to_move, past_moving}
use Rattle.positions.specs.declared.dealt.Dealt.{Dealt}
use Rattle.positions.specs.declared.moving.Moving.{Moving}
use Rattle.positions.specs.declared.sync.SyncStep.{SyncStep}
use Rattle.positions.proofs.Runs.{run_sought, run_some, run_each, run_shift, run_moves}
use Rattle.positions.proofs.Syncs.{sync_sought, sync_moves}
use Rattle.positions.proofs.Dealing.{dealt_readied, dealt_moves}

-- ---- whether the places may be moved

module _ (m : Moving) where
  pub may_known : may_move m ≡ true → (0 < m.dealt.rest) × (m.dealt.offset < 2 ^ 63) × (m.decode < 4294967296)
  may_known e =
      let a = and_right (ltb m.decode 4294967296) _ e in
      (ltb-true 0 m.dealt.rest (and_left _ _ a), ltb-true m.dealt.offset 9223372036854775808 (and_right (ltb 0 m.dealt.rest) _ a), ltb-true m.decode 4294967296 (and_left _ _ e))

  pub may_if : 0 < m.dealt.rest → m.dealt.offset < 2 ^ 63 → m.decode < 4294967296 → may_move m ≡ true
  may_if a b c = rw (lt-ltb 0 m.dealt.rest a, lt-ltb m.dealt.offset 9223372036854775808 b, lt-ltb m.decode 4294967296 c)

  pub too_late : 4294967295 < m.decode → None ≡ to_move m
  too_late h = rw (le-ltb m.decode 4294967296 (omega arith))

  not_dealt : (b : Bool) → cond b (Some m.dealt) None ≡ None → None ≡ cond b (Some m) None
  not_dealt true c = let z : ◌≡◌ {A = ℕ} 0 1 = cc in absurd (omega arith)
  not_dealt false c = refl

  pub none_dealt : m.decode ≤ 4294967295 → ahead_of m.dealt ≡ None → None ≡ to_move m
  none_dealt h e = rw (lt-ltb m.decode 4294967296 (omega arith)) (not_dealt (may_deal m.dealt) e)

  some_dealt : (b : Bool) (d : Dealt) → cond b (Some m.dealt) None ≡ Some d → (b ≡ true) × (m.dealt ≡ d)
  some_dealt true d c = let z : m.dealt ≡ d = cc in (refl, z)
  some_dealt false d c = let z : ◌≡◌ {A = ℕ} 0 1 = cc in absurd (omega arith)

  pub dealt_at : (d : Dealt) → m.decode ≤ 4294967295 → ahead_of m.dealt ≡ Some d → (Some m ≡ to_move m) × (m.dealt ≡ d)
  dealt_at d h e =
      let w = some_dealt (may_deal m.dealt) d e in
      (rw (lt-ltb m.decode 4294967296 (omega arith), w.0), w.1)

  -- what came of them
  ended : (b : Bool) → cond b (Some m) None ≡ None → b ≡ false
  ended true c = let z : ◌≡◌ {A = ℕ} 0 1 = cc in absurd (omega arith)
  ended false c = refl

  pub may_not : to_move m ≡ None → may_move m ≡ false
  may_not e = ended (may_move m) e

  came_to : (b : Bool) (n : Moving) → cond b (Some m) None ≡ Some n → (b ≡ true) × (m ≡ n)
  came_to true n c = let z : m ≡ n = cc in (refl, z)
  came_to false n c = let z : ◌≡◌ {A = ℕ} 0 1 = cc in absurd (omega arith)

  pub may_so : (n : Moving) → to_move m ≡ Some n → (may_move m ≡ true) × (m ≡ n)
  may_so n e = came_to (may_move m) n e

-- ---- before a sample

-- what the places say of the sample with index k
pub record Says (x : Bytes) (k : ℕ) (m : Moving) : Type 0 where
  pub may : may_move m ≡ true
  pub decode : m.decode ≡ before (per_sample x.stts) k
  pub duration : m.times.each ≡ get_or (per_sample x.stts) k 0
  pub shift : shift_of m.shifts ≡ composition_offset x.ctts k
  pub chunk : m.dealt.chunk ≡ suc (holder (per_chunk x.stsc (u32_at x.offsets 12)) k)
  pub description : m.dealt.cursor.description ≡ get_or (description_ids x.stsc (u32_at x.offsets 12)) (holder (per_chunk x.stsc (u32_at x.offsets 12)) k) 0
  pub offset : m.dealt.offset ≡ offset_of (per_chunk x.stsc (u32_at x.offsets 12)) (chunk_offsets x.offsets) (sizes x.stsz) k

module _ (x : Bytes) (n k : ℕ) (g : Agrees x n) (h : k < n) where
  in_chunks : k < sum (per_chunk x.stsc (u32_at x.offsets 12))
  in_chunks = omega (arith, g.dealt)

  module _ (m : Moving) (a : StandsAt x n k m) where
    -- with the entries read
    pub stands_ready : StandsAt x n k (readied_moving x.stts x.ctts x.stsc x.offsets m)
    stands_ready = record {
      index = a.index;
      decode = a.decode;
      times = (run_same x.stts m.times).samples ∙ a.times;
      shifts = (run_same x.ctts m.shifts).samples ∙ a.shifts;
      dealt = (dealt_readied x.stsc x.offsets (sizes x.stsz) (u32_at x.offsets 12) k m.dealt a.dealt in_chunks g.full g.some).0;
      sync = a.sync;
    }

    rests : 0 < (readied_moving x.stts x.ctts x.stsc x.offsets m).dealt.rest
    rests = (dealt_readied x.stsc x.offsets (sizes x.stsz) (u32_at x.offsets 12) k m.dealt a.dealt in_chunks g.full g.some).1

    pub says_ready : Says x k (readied_moving x.stts x.ctts x.stsc x.offsets m)
    unfolding composition_offset
    says_ready =
        let r = stands_ready in
        let t = (run_same x.stts m.times).stands in
        let off = r.dealt.offset rests in
        let some = run_some x.stts (per_sample x.stts) k (readied_run x.stts m.times) r.times t (omega (arith, g.counted)) in
        record {
          may = may_if (readied_moving x.stts x.ctts x.stsc x.offsets m) rests (omega (arith, off, g.low k h)) (omega (arith, a.decode, before_le (per_sample x.stts) k, g.total));
          decode = a.decode;
          duration = sym (run_each x.stts (per_sample x.stts) k (readied_run x.stts m.times) r.times t some);
          shift = run_shift x.ctts (per_sample x.ctts) k (readied_run x.ctts m.shifts) r.shifts (run_same x.ctts m.shifts).stands;
          chunk = r.dealt.in_chunk rests;
          description = r.dealt.description rests;
          offset = off;
        }

    -- past the sample
    pub stands_past : (z : ℕ) (y : SyncStep) → z ≡ get_or (sizes x.stsz) k 0 → y ≡ sync_step x.stss m.sync (suc k)
        → StandsAt x n (suc k) (past_moving z y.at (readied_moving x.stts x.ctts x.stsc x.offsets m))
    stands_past z y e f =
        let r = stands_ready in
        let q : m.index + 1 ≡ suc k = omega (arith, a.index) in
        rw e (record {
          index = q;
          decode = omega (arith, a.decode, says_ready.duration, before_suc (per_sample x.stts) k);
          times = run_moves x.stts (per_sample x.stts) k (readied_run x.stts m.times) r.times (run_same x.stts m.times).stands;
          shifts = run_moves x.ctts (per_sample x.ctts) k (readied_run x.ctts m.shifts) r.shifts (run_same x.ctts m.shifts).stands;
          dealt = dealt_moves x.stsc x.offsets (sizes x.stsz) (u32_at x.offsets 12) k _ r.dealt in_chunks rests;
          sync = (sync_moves x.stss n k m.sync a.sync h y f).1;
        })

    pub listed_is : (y : SyncStep) → y ≡ sync_step x.stss m.sync (suc k) → y.listed ≡ listed (suc k) (syncs x.stss)
    listed_is y f = (sync_moves x.stss n k m.sync a.sync h y f).0

  -- at the start
  pub stands_start : (start : ℕ) (c d : RunCursor) (e : Dealt) (at : ℕ) → start ≡ before (per_sample x.stts) k → c ≡ sought_run x.stts k → d ≡ sought_run x.ctts k
      → DealtAt x.stsc (u32_at x.offsets 12) (chunk_offsets x.offsets) (sizes x.stsz) k e → at ≡ sync_place x.stss k
      → StandsAt x n k (record { index = k; decode = start; times = c; shifts = d; dealt = e; sync = at })
  stands_start start c d e at p q r u v = rw (q, r, v) (record {
    index = refl;
    decode = p;
    times = run_sought x.stts k;
    shifts = run_sought x.ctts k;
    dealt = u;
    sync = sync_sought x.stss n k g.syncs (omega arith);
  })
