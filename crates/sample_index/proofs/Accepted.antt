-- The checkpoints of the tables of an accepted track are their sums: none of these reaches 2 ^ 64.
-- Assumes nothing.
use Prim.Native.Nat.{ℕ, ◌+◌, ◌*◌, ◌≤◌, ◌<◌, ◌^◌}
use mathlib.Core.Path.{◌≡◌, refl, sym, ap, ◌∙◌}
use mathlib.Core.Bool.{Bool, true, false, not, ◌&&◌}
use mathlib.Core.List.{List}
use native.Mathlib.Omega.{arith}
use native.Mathlib.Decide.{ℕ_discrete}
use borrow.Author.Tests.{ne_eqb}
use lib.Dec.{eqb}
use lib.ListN.{length, drop, length-drop}
use Rattle.bigendian.specs.BigEndian.{u32_at}
use Rattle.atoms.specs.Kinds as kinds
use Rattle.lists.specs.Lists.{sum, expand}
use Rattle.lists.proofs.Booleans.{or_left, or_right}
use Rattle.runs.specs.Runs.{runs_in, runs_of, per_sample}
use Rattle.runs.proofs.Turns.{spread_in, spread_none}
use Rattle.runs.proofs.Sentences.{counted_length}
use Rattle.chunks.specs.Chunks.{per_chunk}
use Rattle.structure.specs.declared.source.Source.{Source}
use Rattle.structure.specs.Track.{table_of, samples_of, chunks_of}
use Rattle.track.specs.Refusals.{miscounted, contradicts}
use Rattle.track.proofs.Clauses.{counts_clauses}
use Rattle.places.specs.Places.{part_in}
use Rattle.questions.specs.Asked.{track_asked}
use Rattle.questions.proofs.Asking.{asked}
use Rattle.stepping.proofs.Agreeing.{asked_agrees, stsc_short}
use Rattle.opened.specs.Opened.{Opens}
use Rattle.opened.specs.declared.Opened.{Opened}
use Rattle.checkpoints.proofs.Tails.{counts_at, totals_at}
use Rattle.chunk_lookups.specs.From.{deal_runs}
use Rattle.sample_index.specs.Index.{checkpoints_of, Indexes}
use Rattle.sample_index.specs.Looked.{Points}
use Rattle.sample_index.proofs.Filled.{counts_stts, totals_stts, counts_ctts, counts_stsc, totals_stsc}

-- no more composition offsets than samples
ctts_few : (t : List ℕ) → contradicts t ≡ false → length (per_sample (table_of kinds.ctts t)) ≤ samples_of t
unfolding contradicts
ctts_few t e =
    let n = samples_of t in
    let s = table_of kinds.ctts t in
    let b : (not (eqb (length s) 0) && miscounted n s) ≡ false = or_left _ _ (or_right (miscounted n (table_of kinds.stts t)) _ e) in
    elim (ℕ_discrete (length s) 0) [
      | yes z ↦ omega (arith, ap length (sym (spread_in s) ∙ spread_none (drop 16 s) (omega (arith, length-drop 16 s))))
      | no z ↦
          let m : miscounted n s ≡ false = rw (ne_eqb (length s) 0 z) at b in
          omega (arith, counted_length n s (counts_clauses n s ∙ ap not m))
    ]

module _ (s : List ℕ) (w : Source) (id : ℕ) (h : Opened) (index : List ℕ) (o : Opens s w id h) (e : Indexes s h index) (few : h.samples < 2 ^ 32) (low : h.chunks < 2 ^ 32) where
  t : List ℕ
  t = track_asked s id

  counted : length (per_sample (part_in s h.tables.stts)) ≡ h.samples
  counted = ap (λ (x : List ℕ). length (per_sample x)) o.tables.stts ∙ (asked_agrees s w id o.asked).counted ∙ sym o.samples

  total : sum (per_sample (part_in s h.tables.stts)) < 4294967296
  total = rw o.tables.stts (asked_agrees s w id o.asked).total

  shifted : length (per_sample (part_in s h.tables.ctts)) ≤ h.samples
  shifted = rw (o.tables.ctts, o.samples) (ctts_few (track_asked s id) (asked s w id o.asked).track.agree)

  full : length (per_chunk (part_in s h.tables.stsc) h.chunks) ≡ h.chunks
  full = rw (o.tables.stsc, o.chunks) (asked_agrees s w id o.asked).full

  dealt : sum (per_chunk (part_in s h.tables.stsc) h.chunks) ≡ h.samples
  dealt = rw (o.tables.stsc, o.chunks, o.samples) (asked_agrees s w id o.asked).dealt

  pub accepted_points : (c : ℕ) → c ≡ checkpoints_of h.samples → Points s h index c
  unfolding per_sample per_chunk
  accepted_points c ec =
      let a = runs_of (part_in s h.tables.stts) in
      let b = runs_of (part_in s h.tables.ctts) in
      let d = deal_runs (part_in s h.tables.stsc) h.chunks in
      record {
        counts = counts_stts s h index e c ec (counts_at a c (omega (arith, counted)));
        totals = totals_stts s h index e c ec (totals_at a c (omega (arith, total)));
        shifts = counts_ctts s h index e c ec (counts_at b c (omega (arith, shifted)));
        chunks = counts_stsc s h index e c ec (counts_at d c (omega (arith, full)));
        dealt = totals_stsc s h index e c ec (totals_at d c (omega (arith, dealt)));
        total_low = omega (arith, total);
        chunks_low = omega (arith, full);
        short = rw o.tables.stsc (stsc_short s w id o.asked);
        samples = samples_of (track_asked s id);
        syncs = rw o.tables.stss (asked_agrees s w id o.asked).syncs;
      }
