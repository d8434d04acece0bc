-- Each rule by what the code reads of a track, and one rule after the other.
-- Assumes nothing.
use Rattle.std.specs.Prelude.{Option}
use Prim.Native.Nat.{ℕ, ◌<◌, ◌^◌}
use mathlib.Core.Path.{◌≡◌, refl, ap, ◌∙◌}
use mathlib.Core.Bool.{Bool, true, false, cond, not}
use mathlib.Core.List.{List}
use lib.ListN.{length}
use lib.Dec.{ltb, eqb}
use Rattle.bigendian.specs.BigEndian.{u32_at}
use Rattle.atoms.specs.Kinds.{stts, ctts, stsc, stsz, stss, stsd}
use Rattle.lists.specs.Lists.{sum}
use Rattle.structure.specs.Rows.{first}
use Rattle.structure.specs.ByTracks.{of_track}
use Rattle.structure.specs.Track.{table_of, offset_table, elst_of, samples_of}
use Rattle.runs.specs.Runs.{per_sample}
use Rattle.words.specs.Words.{sizes, chunk_offsets, syncs_agree}
use Rattle.chunks.specs.Chunks.{per_chunk}
use Rattle.track.specs.Track.{track_of}
use Rattle.features.specs.Features.{vfps, feature_of}
use Rattle.chunk_order.specs.Order.{disordered}
use Rattle.quay_rules.specs.Rules.{sync_flags, lacks_syncs, has_zero, too_fast}
use Rattle.quay_tracks.specs.Profile.{many_edits, other_descriptions, has_ctts, few_syncs, zero_size, zero_duration, chunks_disordered, too_many_frames, quay_rules}
use Rattle.quay_tracks.specs.Judged.{Judgeable, from_sixth}

-- ---- the conditions

pub edits_by : (t l : List ℕ) (n : ℕ) → l ≡ elst_of t → n ≡ u32_at l 12 → ltb 1 n ≡ many_edits t
unfolding many_edits
edits_by t l n e f = rw (f, e)

pub descriptions_by : (t l : List ℕ) (n : ℕ) → l ≡ table_of stsd t → n ≡ u32_at l 12 → not (eqb n 1) ≡ other_descriptions t
unfolding other_descriptions
descriptions_by t l n e f = rw (f, e)

pub ctts_by : (t l : List ℕ) → l ≡ table_of ctts t → not (eqb (length l) 0) ≡ has_ctts t
unfolding has_ctts
ctts_by t l e = rw e

pub samples_by : (t l : List ℕ) (n : ℕ) → l ≡ table_of stsz t → n ≡ u32_at l 16 → n ≡ samples_of t
samples_by t l n e f = f ∙ ap (λ (x : List ℕ). u32_at x 16) e

pub syncs_by : (t l : List ℕ) (n : ℕ) (r : Bool) → l ≡ table_of stss t → n ≡ samples_of t → r ≡ lacks_syncs (sync_flags l n) → r ≡ few_syncs t
unfolding few_syncs track_of
syncs_by t l n r e f g = g ∙ rw (e, f)

pub syncs-agree : (movie : ℕ) (t l : List ℕ) (n : ℕ) → Judgeable movie t → l ≡ table_of stss t → n ≡ samples_of t → syncs_agree l n ≡ true
syncs-agree movie t l n j e f = rw (e, f) j.syncs

pub sizes_by : (t l : List ℕ) (r : Bool) → l ≡ table_of stsz t → r ≡ has_zero (sizes l) → r ≡ zero_size t
unfolding zero_size track_of
sizes_by t l r e f = f ∙ rw e

pub durations_by : (t l : List ℕ) (r : Bool) → l ≡ table_of stts t → r ≡ has_zero (per_sample l) → r ≡ zero_duration t
unfolding zero_duration track_of
durations_by t l r e f = f ∙ rw e

pub order_by : (t x z o : List ℕ) (r : Bool) → x ≡ table_of stsc t → z ≡ table_of stsz t → o ≡ offset_table t
    → r ≡ disordered (per_chunk x (u32_at o 12)) (chunk_offsets o) (sizes z) → r ≡ chunks_disordered t
unfolding chunks_disordered track_of
order_by t x z o r ex ez eo e = e ∙ rw (ex, ez, eo)

pub dealt_fits : (movie : ℕ) (t x o : List ℕ) → Judgeable movie t → x ≡ table_of stsc t → o ≡ offset_table t → sum (per_chunk x (u32_at o 12)) < 2 ^ 32
dealt_fits movie t x o j ex eo = rw (ex, eo) j.dealt

pub frames_by : (movie : ℕ) (t : List ℕ) (f : Option ℕ) (r : Bool) → f ≡ feature_of movie (track_of t) vfps → r ≡ too_fast f → r ≡ too_many_frames movie t
unfolding too_many_frames
frames_by movie t f r e g = g ∙ ap too_fast e

-- ---- one after the other

pub rules_are : (movie : ℕ) (t : List ℕ)
    → of_track (quay_rules movie) t ≡ cond (many_edits t) 2 (cond (other_descriptions t) 3 (cond (has_ctts t) 4 (cond (few_syncs t) 5 (from_sixth movie t))))
unfolding quay_rules first
rules_are movie t = refl

-- a test that was passed, and one that was not: b is what the code has of the condition c
pub holds : {b c : Bool} (k n : ℕ) → b ≡ c → b ≡ true → k ≡ cond c k n
holds k n e z = rw (← e, z)

pub passed : {b c : Bool} (k n : ℕ) {r : ℕ} → b ≡ c → b ≡ false → r ≡ n → r ≡ cond c k n
passed k n e z q = rw (← e, z) q
