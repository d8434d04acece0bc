-- The answers of a track that is asked and not refused, by index: what is answered of each number and time, and what an answer tells.
-- Assumes nothing.
use Prim.Native.Nat.{ℕ, zero, suc, ◌-◌, ◌≤◌, ◌<◌}
use mathlib.Core.Path.{◌≡◌, refl, sym, ap, ◌∙◌}
use mathlib.Core.Bool.{Bool, true, false, cond, ◌&&◌}
use mathlib.Core.List.{List}
use native.Mathlib.Omega.{arith}
use native.Mathlib.Decide.{dec_le, dec_lt}
use lib.ListN.{length}
use lib.Dec.{eqb, ltb, leb, lit<}
use borrow.Author.Tests.{lt-ltb, le-ltb, le-leb, lt-leb, ltb-true, leb-true, eqb-true}
use Rattle.lists.specs.Lists.{sum, holder}
use Rattle.lists.proofs.Booleans.{and_left, and_right, cond_zero}
use Rattle.pairs.specs.Pairs.{flat}
use Rattle.edits.specs.declared.MediaTime.{MediaTime}
use Rattle.structure.specs.declared.source.Source.{Source}
use Rattle.atoms.specs.Kinds.{stts}
use Rattle.runs.specs.Runs.{runs_of, entry_of}
use Rattle.structure.specs.Track.{table_of, samples_of}
use Rattle.structure.specs.Rows.{or_else}
use Rattle.structure.proofs.Callers.{none_else}
use Rattle.movie.specs.Rooms.{no_room}
use Rattle.track.specs.Track.{track_of}
use Rattle.track.specs.Refusals.{total_in}
use Rattle.questions.specs.Asked.{ask_refusal, track_asked}
use Rattle.questions.specs.Samples.{sample_of, sample_refusal, sample_answer}
use Rattle.time_questions.specs.Times.{at_refusal, at_number, at_entry, at_answer}
use Rattle.stretch.specs.Stretches.{bytes_in, stretch_pairs, span_refusal, stretch_refusal, stretch_answer}
use Rattle.questions.specs.declared.samples.Sample.{Sample}
use Rattle.theorems.proofs.Lists.{tables_asked}
use Rattle.std.specs.Prelude.{Result, Ok, Err}
use Rattle.refusals.specs.Refusals.{refused}
use Rattle.refusals.specs.declared.Refusal.{Refusal}
use Rattle.time_questions.specs.declared.Numbered.{Numbered}
use Rattle.stretch.specs.declared.StretchTotals.{StretchTotals}
use Rattle.refusals.proofs.Numbers.{ok_one}

-- the sample that was found has this index
pub record Known (s : List ℕ) (id n : ℕ) (x : Sample) : Type 0 where
  pub index : ℕ
  pub number : n ≡ suc index
  pub low : index < samples_of (track_asked s id)
  pub is : x ≡ sample_of (tables_asked s id) index

-- the track is not refused, and the stretch lies within
pub record Span (s : List ℕ) (source : Source) (id : ℕ) (a b : MediaTime) : Type 0 where
  pub ask : ask_refusal s source id ≡ 0
  pub order : a.0 < b.0
  pub within : b.0 ≤ sum (tables_asked s id).durations

-- a stretch that is answered
pub record Answered (s : List ℕ) (source : Source) (id : ℕ) (a b : MediaTime) (room : List ℕ) (k bytes : ℕ) : Type 0 where
  pub span : Span s source id a b
  pub refusal : stretch_refusal s source id a b room ≡ 0
  pub count : k ≡ length (stretch_pairs s id a b)
  pub total : bytes ≡ bytes_in (tables_asked s id) a b

-- the entry that is answered, by the runs of stts
pub entry_is : (s : List ℕ) (id : ℕ) (t : MediaTime) → at_entry s id t ≡ entry_of (runs_of (table_of stts (track_asked s id))) (holder (tables_asked s id).durations t.0)
unfolding at_entry
entry_is s id t = refl

module _ (s : List ℕ) (source : Source) (id : ℕ) (e : ask_refusal s source id ≡ 0) where
  -- ---- samples

  pub found_is : (n i : ℕ) → n ≡ suc i → i < samples_of (track_asked s id) → sample_answer s source id n ≡ Ok (sample_of (tables_asked s id) i)
  unfolding sample_refusal or_else
  found_is n i q h =
      let w : n - 1 ≡ i = omega arith in
      rw (e, lt-ltb 0 n (omega arith), le-leb n (samples_of (track_asked s id)) (omega arith), w)

  -- and nothing is refused
  pub found_clear : (n i : ℕ) → n ≡ suc i → i < samples_of (track_asked s id) → sample_refusal s source id n ≡ 0
  unfolding sample_refusal or_else
  found_clear n i q h = rw (e, lt-ltb 0 n (omega arith), le-leb n (samples_of (track_asked s id)) (omega arith))

  pub none_is : sample_answer s source id 0 ≡ refused 15
  unfolding sample_refusal or_else
  none_is = rw e

  pub past_is : (n : ℕ) → samples_of (track_asked s id) < n → sample_answer s source id n ≡ refused 15
  unfolding sample_refusal or_else
  past_is n h = rw (e, lt-ltb 0 n (omega arith), lt-leb n (samples_of (track_asked s id)) h)

  pub found_known : (n : ℕ) (x : Sample) → sample_answer s source id n ≡ Ok x → Known s id n x
  found_known zero x q = let r = none_is in let z : ◌≡◌ {A = ℕ} 0 1 = cc in absurd (omega arith)
  found_known (suc i) x q = elim (dec_le (suc i) (samples_of (track_asked s id))) [
    | yes l ↦ let r = found_is (suc i) i refl l in record { index = i; number = refl; low = l; is = cc }
    | no l ↦ let r = past_is (suc i) (omega arith) in let z : ◌≡◌ {A = ℕ} 0 1 = cc in absurd (omega arith)
  ]

  -- ---- times

  pub at_is : (t : MediaTime) → t.0 < sum (tables_asked s id).durations → at_answer s source id t ≡ Ok (record { sample = (suc (holder (tables_asked s id).durations t.0)); entry = (at_entry s id t) })
  unfolding at_refusal at_number or_else total_in track_of
  at_is t h = rw (e, lt-ltb t.0 (sum (tables_asked s id).durations) h)

  pub at_outside : (t : MediaTime) → sum (tables_asked s id).durations ≤ t.0 → at_answer s source id t ≡ refused 15
  unfolding at_refusal or_else total_in track_of
  at_outside t h = rw (e, le-ltb t.0 (sum (tables_asked s id).durations) h)

  pub at_known : (t : MediaTime) (n k : ℕ) → at_answer s source id t ≡ Ok (record { sample = n; entry = k }) → (t.0 < sum (tables_asked s id).durations) × (n ≡ suc (holder (tables_asked s id).durations t.0))
  at_known t n k q = elim (dec_lt t.0 (sum (tables_asked s id).durations)) [
    | yes l ↦ (l, ap (λ (x : Numbered). x.sample) (ok_one (sym q ∙ at_is t l)))
    | no l ↦ let r = at_outside t (omega arith) in let z : ◌≡◌ {A = ℕ} 0 1 = cc in absurd (omega arith)
  ]

  -- ---- stretches

  pub pairs_is : (a b : MediaTime) (room : List ℕ) → a.0 < b.0 → b.0 ≤ sum (tables_asked s id).durations → length (flat (stretch_pairs s id a b)) ≤ length room
      → stretch_answer s source id a b room ≡ Ok (record { pairs = (length (stretch_pairs s id a b)); bytes = (bytes_in (tables_asked s id) a b) })
  unfolding stretch_refusal span_refusal no_room or_else total_in track_of
  pairs_is a b room o w r =
      rw (e, lt-ltb a.0 b.0 o, le-leb b.0 (sum (tables_asked s id).durations) w, le-ltb (length room) (length (flat (stretch_pairs s id a b))) r)

  pub short_is : (a b : MediaTime) (room : List ℕ) → a.0 < b.0 → b.0 ≤ sum (tables_asked s id).durations → length room < length (flat (stretch_pairs s id a b))
      → stretch_answer s source id a b room ≡ refused 16
  unfolding stretch_refusal span_refusal no_room or_else total_in track_of
  short_is a b room o w r =
      rw (e, lt-ltb a.0 b.0 o, le-leb b.0 (sum (tables_asked s id).durations) w, lt-ltb (length room) (length (flat (stretch_pairs s id a b))) r)

  outside : (a b : MediaTime) → ((a.0 < b.0) × (b.0 ≤ sum (tables_asked s id).durations) → ⊥) → (ltb a.0 b.0 && leb b.0 (sum (tables_asked s id).durations)) ≡ false
  outside a b n = elim (dec_lt a.0 b.0) [
    | yes o ↦ elim (dec_le b.0 (sum (tables_asked s id).durations)) [
      | yes w ↦ absurd (n (o, w))
      | no w ↦ rw (lt-ltb a.0 b.0 o) (lt-leb b.0 (sum (tables_asked s id).durations) (omega arith))
    ]
    | no o ↦ rw (le-ltb a.0 b.0 (omega arith))
  ]

  pub no_stretch : (a b : MediaTime) → ((a.0 < b.0) × (b.0 ≤ sum (tables_asked s id).durations) → ⊥) → (room : List ℕ) → stretch_answer s source id a b room ≡ refused 15
  unfolding stretch_refusal span_refusal or_else total_in track_of
  no_stretch a b n room = rw (e, outside a b n)

-- ---- what the answer of a stretch tells

pub span_known : (s : List ℕ) (source : Source) (id : ℕ) (a b : MediaTime) → span_refusal s source id a b ≡ 0 → Span s source id a b
unfolding span_refusal total_in track_of
span_known s source id a b e =
    let n = none_else _ _ e in
    let r = cond_zero _ 15 (lit< tt) n.1 in
    record { ask = n.0; order = ltb-true a.0 b.0 (and_left _ _ r); within = leb-true _ _ (and_right (ltb a.0 b.0) _ r) }

pub pairs_known : (s : List ℕ) (source : Source) (id : ℕ) (a b : MediaTime) (room : List ℕ) (k bytes : ℕ) → stretch_answer s source id a b room ≡ Ok (record { pairs = k; bytes = bytes }) → Answered s source id a b room k bytes
unfolding stretch_refusal
pairs_known s source id a b room k bytes e = go (eqb (stretch_refusal s source id a b room) 0) refl e
  where
    go : (t : Bool) → eqb (stretch_refusal s source id a b room) 0 ≡ t
        → cond {A = Result StretchTotals Refusal} t (Ok (record { pairs = length (stretch_pairs s id a b); bytes = bytes_in (tables_asked s id) a b }))
        (refused (stretch_refusal s source id a b room)) ≡ Ok (record { pairs = k; bytes = bytes })
        → Answered s source id a b room k bytes
    go true q w =
        let r = eqb-true _ _ q in
        let v = ok_one w in
        record {
          span = span_known s source id a b (none_else _ _ r).0;
          refusal = r;
          count = sym (ap (λ (x : StretchTotals). x.pairs) v);
          total = sym (ap (λ (x : StretchTotals). x.bytes) v);
        }
    go false q w = let z : ◌≡◌ {A = ℕ} 0 1 = cc in absurd (omega arith)
