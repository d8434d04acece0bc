-- The slip that is written of a stretch reads back as the ID, the scale, a, b and the very pairs that the stretch question puts into its room, and no other bytes
-- are read so. The idea: the track is accepted, so that its numbers keep the rules of a slip.
-- Assumes nothing.
use Prim.Native.Nat.{ℕ, ◌+◌, ◌-◌, ◌*◌, ◌^◌, ◌≤◌, ◌<◌}
use mathlib.Core.Path.{◌≡◌, refl, sym, ap, ◌∙◌}
use mathlib.Core.Bool.{Bool, true, false, cond}
use mathlib.Core.List.{List, [], ◌++◌}
use native.Mathlib.Omega.{arith}
use lib.ListN.{length, get_or, take, drop}
use lib.Seq.{take_at, drop_at}
use lib.Dec.{eqb}
use borrow.Author.Tests.{eq-eqb, eqb-true, not-false}
use Rattle.lists.specs.Lists.{sum, holder}
use Rattle.lists.proofs.Places.{holder_mono, holder_holds, holds_below}
use Rattle.words.specs.Words.{sizes, chunk_offsets}
use Rattle.chunks.specs.Chunks.{per_chunk, end_within}
use Rattle.pairs.specs.Pairs.{touched, flat}
use Rattle.edits.specs.declared.MediaTime.{MediaTime}
use Rattle.slip_head.specs.Bytes.{slip_bytes, Rules}
use Rattle.slip_head.specs.declared.Head.{Head}
use Rattle.slip.specs.Slip.{bound_of, Reads}
use Rattle.std.specs.Prelude.{Ok, Err}
use Rattle.slip.specs.declared.SlipError.TheVariants.{Malformed, NoRoom}
use Rattle.slip.proofs.Promises.{reads_back, accepted_only}
use Rattle.slip.proofs.Readers.{old_as_new, old_refuses}
use Rattle.structure.specs.declared.source.Source.{Source}
use Rattle.structure.specs.Source.{strictly, length_of}
use Rattle.structure.specs.Track.{scale_of, samples_of}
use Rattle.structure.specs.Movie.{moov_of, tracks_of}
use Rattle.structure.specs.Rows.{or_else}
use Rattle.structure.proofs.Callers.{none_else}
use Rattle.track.specs.Track.{track_of}
use Rattle.track.specs.Refusals.{total_in, chunk_past_end}
use Rattle.movie.specs.Rooms.{filled_room, room_after}
use Rattle.movie.proofs.Strict.{strict_less}
use Rattle.questions.specs.Asked.{ask_refusal, track_asked}
use Rattle.stretch.specs.Stretches.{first_in, past_in, pairs_in, bytes_in, stretch_pairs}
use Rattle.slip_writing.specs.Slips.{slip_head, slip_of_stretch, slip_refusal, slip_answer, Slips}
use Rattle.questions.proofs.Asking.{asked}
use Rattle.theorems.specs.Slips.{Bytes, head_of, ReadsBack, OnlyWriting, BothReaders}
use Rattle.theorems.proofs.Bytes.{scale_small, asked_id, id_small}
use Rattle.pairs.proofs.Touched.{touched_few, some_touched, touched_fits, fits_below}
use Rattle.theorems.proofs.Lists.{tables_asked, listed}
use Rattle.pairs.proofs.Filling.{flat_length}
use Rattle.theorems.proofs.Answers.{Span, pairs_is, span_known, pairs_known}
use Rattle.theorems.proofs.Entries.{total_is}
use Rattle.std.specs.Prelude.{Result, Ok}
use Rattle.refusals.specs.Refusals.{refused}
use Rattle.refusals.specs.declared.Refusal.{Refusal}

-- ---- what an answer that is not refused tells

-- the slip was written: nothing was refused, and n is its length
slip_known : (s : List ℕ) (source : Source) (id : ℕ) (a b : MediaTime) (out : List ℕ) (n : ℕ) → slip_answer s source id a b out ≡ Ok n
    → (slip_refusal s source id a b out ≡ 0) × (n ≡ length (slip_of_stretch s id a b))
slip_known s source id a b out n e = go (eqb (slip_refusal s source id a b out) 0) refl e
  where
    go : (t : Bool) → eqb (slip_refusal s source id a b out) 0 ≡ t → cond t (Ok (length (slip_of_stretch s id a b))) (refused (slip_refusal s source id a b out)) ≡ Ok n
        → (slip_refusal s source id a b out ≡ 0) × (n ≡ length (slip_of_stretch s id a b))
    go true q w = (eqb-true _ _ q, cc)
    go false q w = let z : ◌≡◌ {A = ℕ} 0 1 = cc in absurd (omega arith)

-- the room after it
filled_known : (refusal : ℕ) (answer room after : List ℕ) → refusal ≡ 0 → after ≡ room_after refusal answer room → after ≡ answer ++ drop (length answer) room
unfolding room_after filled_room
filled_known refusal answer room after z e = rw (eq-eqb refusal 0 z) at e

not_zero : (n : ℕ) → (n ≡ 0 → ⊥) → 0 < n
not_zero n h = omega arith

-- ---- the numbers of the slip keep its rules

-- the samples of a stretch, by index
span_samples : (s : List ℕ) (source : Source) (id : ℕ) (a b : MediaTime) → Span s source id a b
    → (first_in (tables_asked s id) a < past_in (tables_asked s id) b) × (past_in (tables_asked s id) b ≤ samples_of (track_asked s id))
unfolding first_in past_in
span_samples s source id a b p =
    let ds = (tables_asked s id).durations in
    let h = holder_holds ds (b.0 - 1) (omega (arith, p.order, p.within)) in (
      omega (arith, holder_mono ds a.0 (b.0 - 1) (omega (arith, p.order))),
      omega (arith, (holds_below ds (b.0 - 1) (holder ds (b.0 - 1)) h).1, (listed s source id p.ask).timed),
    )

-- each chunk ends within the file
chunks_end : (s : List ℕ) (source : Source) (id : ℕ) → ask_refusal s source id ≡ 0 → end_within (length_of source s) (tables_asked s id).per_chunk (tables_asked s id).chunk_offsets (tables_asked s id).sizes ≡ true
unfolding track_of chunk_past_end
chunks_end s source id e = not-false _ (asked s source id e).track.within

-- and each time of the stretch is a number of 32 bits
total_small : (s : List ℕ) (source : Source) (id : ℕ) → ask_refusal s source id ≡ 0 → sum (tables_asked s id).durations < 2 ^ 32
unfolding track_of total_in
total_small s source id e = omega (arith, (asked s source id e).track.total_fits)

-- a film ends where its slips' numbers can say: below 2 ^ 64, and below 2 ^ 32 where it is a whole file
length_low : (s : List ℕ) (source : Source) (id : ℕ) (any : Bool) → (any ≡ false → source.alone ≡ false) → ask_refusal s source id ≡ 0 → length_of source s < bound_of any
unfolding length_of
length_low s source id true ok e = omega (arith, (asked s source id e).file.shape.low)
length_low s source id false ok e = rw (ok refl) (omega (arith, (asked s source id e).file.shape.short))

narrow_bound : (any : Bool) → 2 ^ 32 ≤ bound_of any
narrow_bound true = omega arith
narrow_bound false = omega arith

slip_rules : (s : List ℕ) (source : Source) (id : ℕ) (a b : MediaTime) → Bytes s → Span s source id a b → (any : Bool) → (any ≡ false → source.alone ≡ false)
    → Rules (bound_of any) (slip_head s id a b) (flat (stretch_pairs s id a b))
unfolding slip_head stretch_pairs pairs_in track_of
slip_rules s source id a b bytes p any ok =
    let k = asked s source id p.ask in
    let l = listed s source id p.ask in
    let ps = (tables_asked s id).per_chunk in
    let cs = (tables_asked s id).chunk_offsets in
    let zs = (tables_asked s id).sizes in
    let i = first_in (tables_asked s id) a in
    let j = past_in (tables_asked s id) b in
    let o = span_samples s source id a b p in
    let n = asked_id s id k.has in
    let y = total_small s source id p.ask in
    record {
      some_id = not_zero id (λ z. k.track.some_id (n ∙ z));
      some_scale = not_zero (scale_of (track_asked s id)) k.track.some_scale;
      order = p.order;
      some_pairs = some_touched i j 0 ps cs zs o.0 (omega arith) (omega (arith, o.0, o.1, l.dealt));
      few_pairs = omega (arith, touched_few i j 0 ps cs zs, l.chunks, k.track.shape.few_chunks);
      all_pairs = flat_length (touched i j 0 ps cs zs);
      below = (omega (arith, narrow_bound any, id_small s id bytes k.has), (omega (arith, narrow_bound any, scale_small s id bytes), (omega (arith, narrow_bound any, p.order, p.within), (omega (arith, narrow_bound any, p.within), fits_below (bound_of any) (touched i j 0 ps cs zs) (touched_fits (length_of source s) i j 0 ps cs zs (omega (arith, o.0)) (length_low s source id any ok p.ask) (chunks_end s source id p.ask))))));
    }

-- ---- written, and read

-- the film is accepted as the slip writer reads it, and so by the source that is given
asked_less : (s : List ℕ) (source : Source) (id : ℕ) → ask_refusal s (strictly source) id ≡ 0 → ask_refusal s source id ≡ 0
unfolding ask_refusal or_else
asked_less s source id e =
    let n = none_else _ _ e in
    rw (strict_less s source n.0) n.1

-- what a slip that was written tells: its length, and that its stretch was found where the film is read strictly
record Wrote (s : List ℕ) (source : Source) (id : ℕ) (a b : MediaTime) (out : List ℕ) (n : ℕ) : Type 0 where
  refusal : slip_refusal s source id a b out ≡ 0
  count : n ≡ length (slip_of_stretch s id a b)
  span : Span s (strictly source) id a b

wrote : (s : List ℕ) (source : Source) (id : ℕ) (a b : MediaTime) (out after : List ℕ) (n : ℕ) → Slips s source id a b out (Ok n) after → Wrote s source id a b out n
unfolding slip_refusal
wrote s source id a b out after n slips =
    let u = slip_known s source id a b out n (sym slips.answer) in
    record { refusal = u.0; count = u.1; span = span_known s (strictly source) id a b (none_else _ _ u.0).0 }

pub written_reads_back : (s : List ℕ) (source : Source) (id : ℕ) (a b : MediaTime) → ReadsBack s source id a b
unfolding slip_of_stretch slip_head track_of total_in
written_reads_back s source id a b = record {
  answered = λ out after n slips.
      let p = (wrote s source id a b out after n slips).span in (
        length (stretch_pairs s id a b),
        bytes_in (tables_asked s id) a b,
        λ room h. pairs_is s source id (asked_less s source id p.ask) a b room p.order p.within (omega (arith, flat_length (stretch_pairs s id a b))),
      );
  same = λ bytes any ok out after n slips room put k total stretches places enough r read reads.
      let ps = stretch_pairs s id a b in
      let u = wrote s source id a b out after n slips in
      let v = pairs_known s source id a b room k total (sym stretches.answer) in
      let e : length (flat ps) ≡ 2 * k = omega (arith, flat_length ps, v.count) in
      let f : take n after ≡ slip_of_stretch s id a b =
      ap (take n) (filled_known _ (slip_of_stretch s id a b) out after u.refusal slips.places) ∙ take_at (slip_of_stretch s id a b) (drop (length (slip_of_stretch s id a b)) out) n (sym u.count) in
      let g = filled_known _ (flat ps) room put v.refusal stretches.places in
      let h = reads_back any (take n after) places r read reads (slip_head s id a b) (flat ps) (record { bytes = f; rules = slip_rules s (strictly source) id a b bytes u.span any ok }) (omega (arith, e)) in
      let m : length ps ≡ k = sym v.count in (
        h.0 ∙ ap (λ (x : ℕ). Ok (head_of s id a b x)) m,
        ap (take (2 * k)) h.1 ∙ take_at (flat ps) (drop (length (flat ps)) places) (2 * k) e ∙ sym (ap (take (2 * k)) g ∙ take_at (flat ps) (drop (length (flat ps)) room) (2 * k) e),
        ap (drop (2 * k)) h.1 ∙ drop_at (flat ps) (drop (length (flat ps)) places) (2 * k) e ∙ ap (λ (x : ℕ). drop x places) e,
      );
  closed = λ out after n slips i h.
      let t = (asked s (strictly source) id (wrote s source id a b out after n slips).span.ask).file.movie.tracks i h in
      t.stored refl ∙ total_is (get_or (tracks_of (moov_of s)) i []) t.shape;
}

-- ---- read twice

-- the pairs are the first places of the room
pairs-in : (pairs room after : List ℕ) (n : ℕ) → length pairs ≡ 2 * n → after ≡ pairs ++ drop (length pairs) room → take (2 * n) after ≡ pairs
pairs-in pairs room after n c e = ap (take (2 * n)) e ∙ take_at pairs (drop (length pairs) room) (2 * n) c

writing : (h : Head) (any : Bool) (bs room after : List ℕ) → Reads any bs room (Ok h) after → bs ≡ slip_bytes h (take (2 * h.pairs) after)
writing h any bs room after p =
    let u = accepted_only any bs room (Ok h) after p h refl in
    u.1.bytes ∙ ap (slip_bytes h) (sym (pairs-in u.0 room after h.pairs u.1.rules.all_pairs u.2))

pub only_writing : (h : Head) → OnlyWriting h
only_writing h = record {
  has = λ any pairs rules room enough r after reads.
      reads_back any (slip_bytes h pairs) room r after reads h pairs (record { bytes = refl; rules = rules }) enough;
  written = writing h;
  same = λ one other bs cs room₁ room₂ after₁ after₂ p q e. writing h one bs room₁ after₁ p ∙ ap (slip_bytes h) e ∙ sym (writing h other cs room₂ after₂ q);
}

pub both_readers : (bs : List ℕ) → BothReaders bs
both_readers bs = record { same = old_as_new bs; refuses = old_refuses bs }
