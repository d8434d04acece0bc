-- The answers of the sample question, from what the code has of the track and of its tables; and that a sample's bytes lie in its file.
-- Assumes nothing.
use Prim.Native.Nat.{ℕ, ◌+◌, ◌-◌, ◌^◌, ◌≤◌, ◌<◌}
use mathlib.Core.Path.{◌≡◌, refl, sym, ap, ◌∙◌}
use mathlib.Core.List.{List}
use mathlib.Core.Bool.{Bool, true, false, cond}
use native.Mathlib.Omega.{arith}
use borrow.Author.Tests.{ne_eqb, eqb-true, ltb-true, leb-true, not-false}
use lib.ListN.{length}
use lib.Dec.{eqb, ltb}
use denote.Ref.{Bor}
use Rattle.std.specs.Prelude.{Result, Ok, Err}
use Rattle.refusals.specs.declared.Refusal.{Refusal}
use Rattle.refusals.specs.Refusals.{number, refused}
use Rattle.refusals.proofs.Numbers.{number_some}
use Rattle.atoms.specs.Kinds.{stts, stsc, stsz}
use Rattle.lists.specs.Lists.{holder}
use Rattle.lists.proofs.Places.{holder_holds, holds_below, before_le}
use Rattle.lists.proofs.Booleans.{and_left, and_right, cond_zero}
use Rattle.runs.specs.Runs as runs
use Rattle.words.specs.Words.{sizes, chunk_offsets}
use Rattle.chunks.specs.Chunks.{per_chunk}
use Rattle.chunks.proofs.Agreed.{samples_length}
use Rattle.chunk_ends.proofs.Ends.{all_within, sample_within}
use Rattle.structure.specs.declared.source.Source.{Source}
use Rattle.structure.specs.Source.{whole_file, length_of}
use Rattle.structure.specs.Movie.{moov_of, movie_scale}
use Rattle.structure.specs.Track.{table_of, offset_table, samples_of, chunks_of}
use Rattle.structure.specs.Rows.{or_else}
use Rattle.structure.proofs.Callers.{none_else}
use Rattle.track.specs.Track.{track_of}
use Rattle.track.specs.Refusals.{contradicts, total_in, chunk_past_end}
use Rattle.movie.proofs.Accepted.{Accepted}
use Rattle.movie.proofs.Answers.{gives_err}
use Rattle.track.proofs.Agreed.{agreed_tables}
use Rattle.questions.specs.Asked.{ask_refusal, track_asked}
use Rattle.questions.specs.Samples.{sample_of, sample_refusal, sample_asked, sample_answer, sample_zeros, sample_numbers, Samples, bytes_start, bytes_length, PartOf, SampleBytes}
use Rattle.questions.specs.declared.samples.Sample.{Sample}
use Rattle.questions.proofs.Asking.{asked, asked_track, asked_low}

-- ---- what the tables say of a sample

module _ (t : List ℕ) (i : ℕ) (e : contradicts t ≡ false) (h : i < samples_of t) where
  -- its chunk is one of the chunks
  pub chunk_known : holder (per_chunk (table_of stsc t) (chunks_of t)) i < chunks_of t
  chunk_known =
      let a = agreed_tables t e in
      let ps = per_chunk (table_of stsc t) (chunks_of t) in
      let q = holder_holds ps i (omega (arith, a.dealt)) in
      omega (arith, (holds_below ps i (holder ps i) q).1, samples_length (table_of stsc t) (chunks_of t) _ a.deals)

-- ---- the answers

pub refused_sample : (s : List ℕ) (w : Source) (id n : ℕ) (e : Refusal) → sample_refusal s w id n ≡ number e → Samples s w id n (Err e)
unfolding sample_numbers
refused_sample s w id n e h = gives_err sample_numbers sample_zeros (λ k. refl) (sample_asked s id n) (sample_refusal s w id n) e h

pub no_track : (s : List ℕ) (w : Source) (id n : ℕ) (e : Refusal) → number e ≡ ask_refusal s w id → Samples s w id n (Err e)
unfolding sample_refusal or_else
no_track s w id n e h = refused_sample s w id n e (rw (← h, ne_eqb (number e) 0 (λ z. omega (arith, number_some e))))

-- ---- the bytes

-- a question that is not refused asks for one of the track's samples
in_track : (s : List ℕ) (w : Source) (id n : ℕ) → sample_refusal s w id n ≡ 0 → (ask_refusal s w id ≡ 0) × (n - 1 < samples_of (track_asked s id))
unfolding sample_refusal
in_track s w id n e =
    let q = none_else _ _ e in
    let r = cond_zero _ 15 (omega arith) q.1 in
    let lo = ltb-true 0 n (and_left _ _ r) in
    let hi = leb-true n (samples_of (track_asked s id)) (and_right (ltb 0 n) _ r) in
    (q.0, omega arith)

-- a sample of an accepted track lies in the film's file
accepted_within : (w : Source) (scale len : ℕ) (t : List ℕ) → Accepted w scale len t → (i : ℕ) → i < samples_of t
    → (sample_of (track_of t) i).offset + (sample_of (track_of t) i).size ≤ len
unfolding sample_of track_of chunk_past_end
accepted_within w scale len t a i h =
    let ps = per_chunk (table_of stsc t) (chunks_of t) in
    let y = all_within len ps (chunk_offsets (offset_table t)) (sizes (table_of stsz t)) (not-false _ a.within) in
    sample_within len ps (chunk_offsets (offset_table t)) (sizes (table_of stsz t)) i y (omega (arith, (agreed_tables t a.agree).dealt))

pub offset_low : (s t : List ℕ) (w : Source) (id r : ℕ) → r ≡ ask_refusal s w id → r ≡ 0 → t ≡ track_asked s id → (i : ℕ) → i < samples_of t → (sample_of (track_of t) i).offset < 2 ^ 63
offset_low s t w id r e z d i h =
    omega (arith, accepted_within w (movie_scale (moov_of s)) (length_of w s) t (asked_track s t w id r e z d) i h, asked_low s t w id r e z d)

within_file : (s : List ℕ) (w : Source) (id n : ℕ) → sample_refusal s w id n ≡ 0
    → (sample_of (track_of (track_asked s id)) (n - 1)).offset + (sample_of (track_of (track_asked s id)) (n - 1)).size ≤ length_of w s
within_file s w id n e =
    let q = in_track s w id n e in
    accepted_within w (movie_scale (moov_of s)) (length_of w s) (track_asked s id) (asked s w id q.0).track (n - 1) q.1

bytes_within : (s : List ℕ) (w : Source) (id n : ℕ) → bytes_start (sample_answer s w id n) + bytes_length (sample_answer s w id n) ≤ length_of w s
unfolding bytes_start bytes_length
bytes_within s w id n = go (eqb (sample_refusal s w id n) 0) refl
  where
    go : (b : Bool) → eqb (sample_refusal s w id n) 0 ≡ b
        → bytes_start (cond b (Ok (sample_of (track_of (track_asked s id)) (n - 1))) (refused (sample_refusal s w id n)))
        + bytes_length (cond b (Ok (sample_of (track_of (track_asked s id)) (n - 1))) (refused (sample_refusal s w id n))) ≤ length_of w s
    go true q = within_file s w id n (eqb-true _ _ q)
    go false q = omega arith

-- from what the code has of the answer
found_bytes : (s : List ℕ) (w : Source) (id n : ℕ) (r : Result Sample Refusal) (v : Sample) → Samples s w id n r → r ≡ Ok v
    → (bytes_start (sample_answer s w id n) ≡ v.offset) × (bytes_length (sample_answer s w id n) ≡ v.size)
unfolding bytes_start bytes_length
found_bytes s w id n r v a e = let q = sym a.answer ∙ e in (ap bytes_start q, ap bytes_length q)

refused_bytes : (s : List ℕ) (w : Source) (id n : ℕ) (r : Result Sample Refusal) (k : Refusal) → Samples s w id n r → r ≡ Err k
    → (bytes_start (sample_answer s w id n) ≡ 0) × (bytes_length (sample_answer s w id n) ≡ 0)
unfolding bytes_start bytes_length
refused_bytes s w id n r k a e = let q = sym a.answer ∙ e in (ap bytes_start q, ap bytes_length q)

pub found_fits : (s : List ℕ) (w : Source) (id n : ℕ) (r : Result Sample Refusal) (v : Sample) → Samples s w id n r → r ≡ Ok v → v.offset + v.size ≤ length_of w s
found_fits s w id n r v a e = let q = found_bytes s w id n r v a e in omega (arith, q.0, q.1, bytes_within s w id n)

-- of a whole file
pub found_in_file : (s : List ℕ) (w : Source) (id n : ℕ) (r : Result Sample Refusal) (v : Sample) → w ≡ whole_file → Samples s w id n r → r ≡ Ok v → v.offset + v.size ≤ length s
unfolding length_of
found_in_file s w id n r v h a e = rw h at (found_fits s w id n r v a e)

pub found_part : (file r : Bor (List ℕ)) (w : Source) (id n : ℕ) (a : Result Sample Refusal) (v : Sample) → w ≡ whole_file → Samples file.now w id n a → a ≡ Ok v → PartOf file v.offset v.size r → SampleBytes file id n r
found_part file r w id n a v h p e q = let b = found_bytes file.now whole_file id n a v (rw h at p) e in rw (b.0, b.1) q

pub refused_part : (file r : Bor (List ℕ)) (w : Source) (id n : ℕ) (a : Result Sample Refusal) (k : Refusal) → w ≡ whole_file → Samples file.now w id n a → a ≡ Err k → PartOf file 0 0 r → SampleBytes file id n r
refused_part file r w id n a k h p e q = let b = refused_bytes file.now whole_file id n a k (rw h at p) e in rw (b.0, b.1) q

-- ---- the answer's numbers are low

pub record Low (v : Sample) : Type 0 where
  pub decode : v.decode < 4294967296
  pub chunk : v.chunk ≤ 1048576
  pub offset : v.offset < 2 ^ 63

numbers_low : (s : List ℕ) (w : Source) (id n : ℕ) → sample_refusal s w id n ≡ 0 → Low (sample_of (track_of (track_asked s id)) (n - 1))
unfolding sample_of track_of total_in
numbers_low s w id n e =
    let t = track_asked s id in
    let q = in_track s w id n e in
    let a = asked s w id q.0 in
    record {
      decode = omega (arith, before_le (runs.per_sample (table_of stts t)) (n - 1), a.track.total_fits);
      chunk = omega (arith, chunk_known t (n - 1) a.track.agree q.1, a.track.shape.few_chunks);
      offset = omega (arith, within_file s w id n e, a.file.shape.low);
    }

pub found_low : (s : List ℕ) (w : Source) (id n : ℕ) (r : Result Sample Refusal) (v : Sample) → Samples s w id n r → r ≡ Ok v → Low v
found_low s w id n r v a e = go (eqb (sample_refusal s w id n) 0) refl (sym e ∙ a.answer)
  where
    go : (b : Bool) → eqb (sample_refusal s w id n) 0 ≡ b → Ok v ≡ cond b (Ok (sample_of (track_of (track_asked s id)) (n - 1))) (refused (sample_refusal s w id n)) → Low v
    go true q d = let z : v ≡ sample_of (track_of (track_asked s id)) (n - 1) = cc in rw z (numbers_low s w id n (eqb-true _ _ q))
    go false q d = let z : ◌≡◌ {A = ℕ} 0 1 = cc in absurd (omega arith)
