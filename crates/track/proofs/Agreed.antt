-- What holds of the lists of a track whose sample tables do not contradict each other: the clauses of refusal 9, one by one.
-- Assumes nothing.
use Prim.Native.Nat.{ℕ}
use mathlib.Core.Path.{◌≡◌, sym, ap, ◌∙◌}
use mathlib.Core.Bool.{true, false, not, ◌&&◌}
use mathlib.Core.List.{List}
use lib.ListN.{length}
use lib.Dec.{eqb}
use borrow.Author.Tests.{eqb-true, not-false}
use Rattle.atoms.specs.Kinds.{stts, ctts, stsc}
use Rattle.structure.specs.Track.{table_of, samples_of, chunks_of, descriptions_of}
use Rattle.lists.specs.Lists.{sum}
use Rattle.lists.proofs.Booleans.{or_left, or_right}
use Rattle.runs.specs.Runs.{runs_of, per_sample}
use Rattle.runs.specs.Computed.{counting}
use Rattle.runs.proofs.Sentences.{counted_length}
use Rattle.chunks.specs.Chunks.{per_chunk, deals_contradict}
use Rattle.chunks.specs.Computed.{deals_agree}
use Rattle.chunks.proofs.Clauses.{agree_clauses}
use Rattle.track.specs.Refusals.{miscounted, contradicts}
use Rattle.track.proofs.Clauses.{counts_clauses}

pub stts_counts : (t : List ℕ) → contradicts t ≡ false → counting (samples_of t) (runs_of (table_of stts t)) ≡ true
unfolding contradicts
stts_counts t e = counts_clauses (samples_of t) (table_of stts t) ∙ ap not (or_left (miscounted (samples_of t) (table_of stts t)) _ e)

pub stts_miscounts : (t : List ℕ) → counting (samples_of t) (runs_of (table_of stts t)) ≡ false → contradicts t ≡ true
unfolding contradicts
stts_miscounts t e =
    let m : miscounted (samples_of t) (table_of stts t) ≡ true = not-false _ (sym (counts_clauses (samples_of t) (table_of stts t)) ∙ e) in
    rw m

pub record Agreed (t : List ℕ) : Type 0 where
  -- as many durations as samples
  pub counted : length (per_sample (table_of stts t)) ≡ samples_of t
  pub deals : deals_agree (table_of stsc t) (chunks_of t) (descriptions_of t) ≡ true
  -- as many samples dealt to the chunks
  pub dealt : sum (per_chunk (table_of stsc t) (chunks_of t)) ≡ samples_of t

pub agreed_tables : (t : List ℕ) → contradicts t ≡ false → Agreed t
unfolding contradicts
agreed_tables t e =
    let n = samples_of t in
    let a = miscounted n (table_of stts t) in
    let b = not (eqb (length (table_of ctts t)) 0) && miscounted n (table_of ctts t) in
    let c = eqb (chunks_of t) 0 && not (eqb n 0) in
    let d = deals_contradict (table_of stsc t) (chunks_of t) (descriptions_of t) in
    let r₁ = or_right a _ e in
    let r₂ = or_right b _ r₁ in
    let r₃ = or_right c _ r₂ in
    let r₄ = or_right d _ r₃ in
    record {
      counted = counted_length n (table_of stts t) (stts_counts t e);
      deals = agree_clauses (table_of stsc t) (chunks_of t) (descriptions_of t) ∙ ap not (or_left d _ r₃);
      dealt = eqb-true (sum (per_chunk (table_of stsc t) (chunks_of t))) n (not-false _ (or_left _ _ r₄));
    }
