-- Slip writing, from what the code has of the stretch: the head and then the pairs, put one after the other, are the slip's bytes.
-- Assumes nothing.
use Prim.Native.Nat.{ℕ, suc, ◌+◌, ◌-◌, ◌^◌, ◌≤◌, ◌<◌}
use mathlib.Core.Path.{◌≡◌, refl, sym, ap, subst, ◌∙◌}
use mathlib.Core.List.{List, [], ◌∷◌, ◌++◌}
use mathlib.Core.Bool.{Bool, true, false, cond}
use native.Mathlib.Omega.{arith}
use native.Mathlib.Nat.{zero-add}
use borrow.Author.Tests.{eq-eqb, ne_eqb, lt-ltb, le-ltb, lt-leb}
use lib.ListN.{length, drop, length-append}
use lib.Dec.{eqb}
use lib.Seq.{sets, sets-eq, length-sets}
use Rattle.std.specs.Prelude.{Some}
use Rattle.lists.proofs.Stores.{sets_append}
use Rattle.leb128.specs.Numbers.{writes}
use Rattle.leb128.specs.Writing.{put_at, past_put}
use Rattle.leb128.proofs.Puts.{writes_append, writes_few, put_fits}
use Rattle.slip_head.specs.Bytes.{after_form, head_numbers, any_wide, form_for, slip_bytes}
use Rattle.slip_head.specs.declared.Head.{Head}
use Rattle.slip_head.proofs.Writes.{slip_form}
use Rattle.structure.specs.declared.source.Source.{Source}
use Rattle.structure.specs.Source.{whole_file, strictly}
use Rattle.structure.specs.Track.{scale_of, table_of}
use Rattle.atoms.specs.Kinds.{stts}
use Rattle.lists.specs.Lists.{holder}
use Rattle.runs.specs.Runs.{per_sample}
use Rattle.pair_bytes.proofs.Streaming.{none_wide}
use Rattle.structure.specs.Rows.{or_else}
use Rattle.movie.specs.Rooms.{no_room, filled_room, room_after, refused_with}
use Rattle.movie.proofs.Answers.{puts_err, puts}
use Rattle.movie.proofs.Refused.{or_err}
use Rattle.movie.proofs.Numbered.{room_low}
use Rattle.pairs.specs.Pairs.{flat}
use Rattle.pairs.specs.declared.Pair.{Pair}
use Rattle.pairs.specs.Walks.{pairs_between, Fitting}
use Rattle.pairs.proofs.Filling.{flat_length}
use Rattle.pair_bytes.specs.Measures.{pair_bytes, measured_of, Wrote}
use Rattle.pair_bytes.specs.declared.Measured.{Measured}
use Rattle.edits.specs.declared.MediaTime.{MediaTime}
use Rattle.questions.specs.Asked.{track_asked}
use Rattle.spans.specs.Spans.{Usable, Spans, span_pairs}
use Rattle.stretch.specs.Stretches.{stretch_pairs, span_at, span_refusal}
use Rattle.slip_writing.specs.Writing.{NarrowHead, PutSlip}
use Rattle.slip_writing.specs.Slips.{slip_head, slip_of_stretch, slip_refusal, slip_asked, slip_numbers, Slips}
use Rattle.spans.specs.declared.Span.{Span}
use Rattle.std.specs.Prelude.{Result, Ok, Err}
use Rattle.refusals.specs.Refusals.{number}
use Rattle.refusals.specs.declared.Refusal.{Refusal}
use Rattle.refusals.specs.declared.Refusal.TheVariants.{NoRoom}
use Rattle.spans.proofs.Spanning.{pairs_few, pairs-fit}
use Rattle.stretch.proofs.Spanning.{in_span_of, usable_whole, pairs_are, span_order}

-- ---- how long it is

pub pairs_short : (t : List ℕ) (s : Span) → Usable (2 ^ 64) t → length (pair_bytes (span_pairs t s)) < 2 ^ 63
unfolding pair_bytes
pairs_short t s u = omega (arith, writes_few (flat (span_pairs t s)), flat_length (span_pairs t s), pairs_few t s u)

-- what is asked where pairs are measured
pub may_measure : (t : List ℕ) (s : Span) → Usable (2 ^ 64) t → s.from ≤ s.stop → (l : List Pair) → l ≡ span_pairs t s → Fitting (2 ^ 64) l × (length (pair_bytes l) < 2 ^ 64)
may_measure t s u o l e = rw e (pairs-fit t s u o, omega (arith, pairs_short t s u))

pub length_fits : (t : List ℕ) (s : Span) (h : Head) → Usable (2 ^ 64) t → (k : ℕ) (m : Measured) → k ≡ length (writes (head_numbers (form_for m.wide) h [])) → m ≡ measured_of (span_pairs t s) → k + m.bytes < 2 ^ 64
length_fits t s h u k m e f = omega (arith, pairs_short t s u, ap (λ (x : Measured). x.bytes) f, writes_few (head_numbers (form_for m.wide) h []))

-- where the numbers before the pairs are narrow, the pairs alone tell the form
narrow_form : (h : Head) (ps : List ℕ) → NarrowHead h → any_wide (after_form h ps) ≡ any_wide ps
unfolding any_wide
narrow_form h ps n =
    rw (lt-leb (2 ^ 32) h.id n.id, lt-leb (2 ^ 32) h.scale n.scale, lt-leb (2 ^ 32) h.a n.a, lt-leb (2 ^ 32) h.b n.b, lt-leb (2 ^ 32) h.pairs n.pairs)

-- ---- where it fits, and where it does not

module _ (h : Head) (qs : List Pair) (out : List ℕ) (k : ℕ) (m : Measured) (narrow : NarrowHead h) (e : k ≡ length (writes (head_numbers (form_for m.wide) h []))) (f : m ≡ measured_of qs) where
  abbrev hd : List ℕ
  hd = writes (head_numbers (form_for m.wide) h [])

  split : slip_bytes h (flat qs) ≡ hd ++ pair_bytes qs
  unfolding pair_bytes
  split = slip_form h (flat qs) m.wide (narrow_form h (flat qs) narrow ∙ sym (ap (λ (x : Measured). x.wide) f)) ∙ writes_append (head_numbers (form_for m.wide) h []) (flat qs)

  split_length : length (slip_bytes h (flat qs)) ≡ k + m.bytes
  split_length = omega (arith, ap length split ∙ length-append hd (pair_bytes qs), ap (λ (x : Measured). x.bytes) f)

  pub too_long : length out < k + m.bytes → PutSlip (slip_bytes h (flat qs)) out (Err NoRoom) out
  unfolding no_room room_after
  too_long g =
      let l = lt-ltb (length out) (length (slip_bytes h (flat qs))) (omega (arith, split_length)) in
      record { answer = rw l; places = rw l }

  pub head_put : k + m.bytes ≤ length out → past_put out 0 hd ≡ Some (0 + length hd)
  head_put g = (put_fits out 0 hd (omega arith)).0

  module _ (g : k + m.bytes ≤ length out) (at : ℕ) (half : List ℕ) (a : Some at ≡ past_put out 0 hd) (b : half ≡ put_at out 0 hd) where
    head_fits : (past_put out 0 hd ≡ Some (0 + length hd)) × (put_at out 0 hd ≡ sets out 0 hd)
    head_fits = put_fits out 0 hd (omega arith)

    head_past : at ≡ 0 + length hd
    head_past = let same : Some at ≡ Some (0 + length hd) = a ∙ head_fits.0 in cc

    pub pairs_after : at + length (pair_bytes qs) ≤ length half
    pairs_after = omega (arith, head_past, ap length (b ∙ head_fits.1) ∙ length-sets out 0 hd, ap (λ (x : Measured). x.bytes) f)

    pub all_put : (r : ℕ) (after : List ℕ) → Wrote qs half at r after → PutSlip (slip_bytes h (flat qs)) out (Ok r) after
    unfolding no_room room_after filled_room
    all_put r after d =
        let l = le-ltb (length out) (length (slip_bytes h (flat qs))) (omega (arith, split_length)) in
        let x = head_past in
        let y : r ≡ length (slip_bytes h (flat qs)) = omega (arith, split_length, d.ends, ap (λ (v : Measured). v.bytes) f) in
        let v : after ≡ sets out 0 (slip_bytes h (flat qs)) = d.stored ∙ rw (b ∙ head_fits.1, x) (sym (ap (λ (n : List ℕ). sets out 0 n) split ∙ sets_append out 0 hd (pair_bytes qs))) in
        let w : sets out 0 (slip_bytes h (flat qs)) ≡ slip_bytes h (flat qs) ++ drop (length (slip_bytes h (flat qs))) out = rw (zero-add) at (sets-eq (slip_bytes h (flat qs)) out 0 (omega (arith, split_length))) in
        record { answer = rw (l, ← y); places = rw l (v ∙ w) }

-- ---- the answers

-- v is the source that the code makes of w
pub no_slip : (s : List ℕ) (w v : Source) (id : ℕ) (a b : MediaTime) (out : List ℕ) (e : Refusal) → v ≡ strictly w → span_at s v id a.0 b.0 ≡ number e
    → Slips s w id a b out (Err e) out
unfolding slip_numbers slip_refusal span_refusal
no_slip s w v id a b out e h q =
    puts_err slip_numbers (refused_with 1) (λ k. refl) (slip_asked s id a b) (slip_of_stretch s id a b) out (slip_refusal s w id a b out) e
    (or_err (span_at s (strictly w) id a.0 b.0) _ e (sym (ap (λ u. span_at s u id a.0 b.0) h) ∙ q))

module _ (s t out : List ℕ) (w v : Source) (id : ℕ) (a b : MediaTime) (h : v ≡ strictly w) (z : 0 ≡ span_at s v id a.0 b.0)
    (d : t ≡ track_asked s id) (p : Span) (q : Spans t a.0 b.0 p) (n scale : ℕ) (c : n ≡ length (span_pairs t p)) (f : scale ≡ scale_of t) where
  same_pairs : span_pairs t p ≡ stretch_pairs s id a b
  same_pairs = pairs_are s t v id a b (in_span_of s v id a.0 b.0 (sym z)) d p q

  head_is : ◌≡◌ {A = Head} (record { id = id; scale = scale; a = a.0; b = b.0; pairs = n }) (slip_head s id a b)
  unfolding slip_head
  head_is =
      let m : n ≡ length (stretch_pairs s id a b) = c ∙ ap length same_pairs in
      let k : scale ≡ scale_of (track_asked s id) = f ∙ ap scale_of d in
      rw (m, k)

  bytes_are : slip_bytes (record { id = id; scale = scale; a = a.0; b = b.0; pairs = n }) (flat (span_pairs t p)) ≡ slip_of_stretch s id a b
  unfolding slip_of_stretch
  bytes_are = rw (head_is, same_pairs)

  then_room : slip_refusal s w id a b out ≡ no_room (slip_of_stretch s id a b) out
  unfolding slip_refusal span_refusal or_else
  then_room =
      let k : span_at s (strictly w) id a.0 b.0 ≡ 0 = sym (z ∙ ap (λ u. span_at s u id a.0 b.0) h) in
      rw k

  pub slip_put : (k : Head) → k ≡ record { id = id; scale = scale; a = a.0; b = b.0; pairs = n } → (y : Result ℕ Refusal) (after : List ℕ)
      → PutSlip (slip_bytes k (flat (span_pairs t p))) out y after → Slips s w id a b out y after
  unfolding slip_numbers
  slip_put k x y after i =
      let u : PutSlip (slip_of_stretch s id a b) out y after = rw (ap (λ (v : Head). slip_bytes v (flat (span_pairs t p))) x ∙ bytes_are) at i in
      puts slip_numbers (refused_with 1) (λ k. refl) (slip_asked s id a b) (slip_of_stretch s id a b) out (slip_refusal s w id a b out) y after (rw then_room (room_low _ out))
      (u.answer ∙ rw then_room)
      (u.places ∙ rw then_room)

-- of a whole file, by the source that the code makes
pub of_whole : (s : List ℕ) (w : Source) (id : ℕ) (a b : MediaTime) (out : List ℕ) (r : Result ℕ Refusal) (after : List ℕ) → w ≡ whole_file → Slips s w id a b out r after → Slips s whole_file id a b out r after
of_whole s w id a b out r after h p = subst (λ v. Slips s v id a b out r after) h p

-- a whole file's slip has form 1: no pair passes the end of a file of at most 2,147,483,647 bytes
pub whole_form_1 : (s : List ℕ) (w : Source) (id : ℕ) (a b : MediaTime) → w.alone ≡ false → span_at s w id a.0 b.0 ≡ 0 → NarrowHead (slip_head s id a b)
    → any_wide (after_form (slip_head s id a b) (flat (stretch_pairs s id a b))) ≡ false
whole_form_1 s w id a b h e n =
    let i = in_span_of s w id a.0 b.0 e in
    let t = track_asked s id in
    let p : Span = record { from = holder (per_sample (table_of stts t)) a.0; stop = suc (holder (per_sample (table_of stts t)) (b.0 - 1)) } in
    let q : Spans t a.0 b.0 p = record { first = refl; past = refl } in
    narrow_form (slip_head s id a b) (flat (stretch_pairs s id a b)) n
    ∙ ap (λ l. any_wide (flat l)) (sym (pairs_are s t w id a b i refl p q))
    ∙ none_wide (span_pairs t p) (pairs-fit t p (usable_whole s t w id i.asks refl h) (span_order s t w id a b i refl p q))
