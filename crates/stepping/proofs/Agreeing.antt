-- What the tables of the track that is asked have, where neither the film nor the ID is refused.
-- Assumes nothing.
use Prim.Native.Nat.{ℕ, ◌≤◌, ◌<◌, ◌^◌}
use mathlib.Core.Path.{◌≡◌, refl, ap, ◌∙◌}
use mathlib.Core.Bool.{true, false, not, ◌&&◌}
use mathlib.Core.List.{List}
use native.Mathlib.Omega.{arith}
use borrow.Author.Tests.{not-false}
use lib.Dec.{eqb}
use lib.ListN.{length}
use Rattle.atoms.specs.Kinds as kinds
use Rattle.bigendian.specs.BigEndian.{u32_at}
use Rattle.lists.specs.Lists.{sum, before}
use Rattle.lists.proofs.Booleans.{or_right}
use Rattle.runs.specs.Runs.{per_sample, timing_of}
use Rattle.words.specs.Words.{sizes, chunk_offsets, syncs_agree}
use Rattle.chunks.specs.Chunks.{per_chunk, offset_of, deals_contradict}
use Rattle.chunks.proofs.Agreed.{samples_length, samples_some}
use Rattle.structure.specs.declared.source.Source.{Source}
use Rattle.structure.specs.Track.{table_of, samples_of, chunks_of, descriptions_of}
use Rattle.structure.proofs.Lengths.{table_short}
use Rattle.track.specs.Track.{track_of}
use Rattle.track.specs.Refusals.{miscounted, contradicts, total_in}
use Rattle.track.proofs.Agreed.{agreed_tables}
use Rattle.places.specs.Places.{part_in, AreTables}
use Rattle.places.specs.declared.tables.Tables.{Tables}
use Rattle.positions.specs.Moving.{Bytes, StandsAt, Agrees}
use Rattle.questions.specs.Asked.{ask_refusal, track_asked}
use Rattle.questions.specs.Samples.{sample_of}
use Rattle.questions.proofs.Asking.{asked}
use Rattle.questions.proofs.Found.{offset_low}
use Rattle.stepping.specs.Parts.{bytes_in}
use Rattle.stepping.specs.Stepping.{bytes_of}

agreed_syncs : (t : List ℕ) → contradicts t ≡ false → syncs_agree (table_of kinds.stss t) (samples_of t) ≡ true
unfolding contradicts
agreed_syncs t e =
    let n = samples_of t in
    let a = miscounted n (table_of kinds.stts t) in
    let b = not (eqb (length (table_of kinds.ctts t)) 0) && miscounted n (table_of kinds.ctts t) in
    let c = eqb (chunks_of t) 0 && not (eqb n 0) in
    let d = deals_contradict (table_of kinds.stsc t) (chunks_of t) (descriptions_of t) in
    let f = not (eqb (sum (per_chunk (table_of kinds.stsc t) (chunks_of t))) n) in
    not-false _ (or_right f _ (or_right d _ (or_right c _ (or_right b _ (or_right a _ e)))))

module _ (s : List ℕ) (w : Source) (id : ℕ) (e : ask_refusal s w id ≡ 0) where
  pub asked_agrees : Agrees (bytes_of (track_asked s id)) (samples_of (track_asked s id))
  unfolding total_in sample_of track_of
  asked_agrees =
      let t = track_asked s id in
      let a = (asked s w id e).track in
      let g = agreed_tables t a.agree in
      record {
        counted = g.counted;
        total = omega (arith, a.total_fits);
        full = samples_length (table_of kinds.stsc t) (chunks_of t) (descriptions_of t) g.deals;
        some = samples_some (table_of kinds.stsc t) (chunks_of t) (descriptions_of t) g.deals;
        dealt = g.dealt;
        low = offset_low s t w id (ask_refusal s w id) refl e refl;
        syncs = agreed_syncs t a.agree;
      }

  pub stsc_short : length (table_of kinds.stsc (track_asked s id)) < 2 ^ 32
  stsc_short = let a = asked s w id e in omega (arith, a.short, a.file.shape.short, table_short kinds.stsc (track_asked s id))

-- the parts' bytes are those of the tables
pub in_film : (s t : List ℕ) (p : Tables) → AreTables s t p → bytes_in s p ≡ bytes_of t
in_film s t p a = λ i. record { stts = a.stts i; ctts = a.ctts i; stsc = a.stsc i; stsz = a.stsz i; offsets = a.offsets i; stss = a.stss i }
