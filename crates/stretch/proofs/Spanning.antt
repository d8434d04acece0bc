-- The stretch question, from what the code has of the track: its samples, its pairs, and each of its answers.
-- Assumes nothing.
use Prim.Native.Nat.{ℕ, zero, suc, ◌-◌, ◌/◌, ◌^◌, ◌≤◌, ◌<◌, max}
use mathlib.Core.Path.{◌≡◌, refl, sym, ap, subst, ◌∙◌}
use mathlib.Core.List.{List, map}
use Rattle.std.proofs.lemmas.List.{map-id}
use mathlib.Core.Bool.{Bool, true, false, cond, ◌&&◌}
use native.Mathlib.Omega.{arith}
use native.Mathlib.Decide.{ℕ_discrete}
use borrow.Author.Tests.{eq-eqb, ne_eqb, ltb-true, leb-true}
use lib.ListN.{length}
use lib.Dec.{eqb, ltb, leb}
use lib.Seq.{sets}
use Rattle.atoms.specs.Kinds.{stts, stsc, stsz}
use Rattle.lists.specs.Lists.{sum, holder}
use Rattle.lists.proofs.Places.{holder_holds, holds_below, holder_mono}
use Rattle.lists.proofs.Booleans.{and_left, and_right, cond_zero}
use Rattle.runs.specs.Runs.{per_sample}
use Rattle.words.specs.Words.{sizes, chunk_offsets}
use Rattle.chunks.specs.Chunks.{per_chunk}
use Rattle.structure.specs.declared.source.Source.{Source}
use Rattle.structure.specs.Source.{whole_file, length_of}
use Rattle.structure.specs.Track.{table_of, offset_table, samples_of, chunks_of}
use Rattle.structure.specs.Rows.{or_else}
use Rattle.places.specs.Places.{part_in, AreParts, IsTrak}
use Rattle.places.specs.declared.trak.Trak.{Trak}
use Rattle.structure.proofs.Callers.{none_else}
use Rattle.track.specs.Track.{track_of}
use Rattle.track.specs.Refusals.{total_in}
use Rattle.track.proofs.Agreed.{agreed_tables}
use Rattle.movie.specs.Rooms.{no_room, refused_with}
use Rattle.refusals.proofs.Numbers.{ok_one}
use Rattle.movie.proofs.Answers.{puts_err}
use Rattle.movie.proofs.Refused.{not_both, or_err}
use Rattle.pairs.specs.Pairs.{flat}
use Rattle.pairs.specs.Walks.{lengths_of}
use Rattle.pairs.specs.declared.Pair.{Pair}
use Rattle.pairs.proofs.Touched.{touched_sum}
use Rattle.spans.specs.Spans.{Usable, Spans, span_in, span_pairs}
use Rattle.spans.specs.declared.Span.{Span}
use Rattle.spans.proofs.Spanning.{span_is}
use Rattle.std.specs.Prelude.{Result, Ok, Err}
use Rattle.refusals.specs.Refusals.{number, code}
use Rattle.refusals.specs.declared.Refusal.{Refusal}
use Rattle.refusals.specs.declared.Refusal.TheVariants.{Outside, NoRoom}
use Rattle.questions.specs.Asked.{ask_refusal, track_asked}
use Rattle.questions.proofs.Asking.{asked}
use Rattle.questions.proofs.Numbered.{ask_low}
use Rattle.movie.proofs.Numbered.{else_low}
use Rattle.edits.specs.declared.MediaTime.{MediaTime}
use Rattle.stretch.specs.Spans.{SpanAsked}
use Rattle.stretch.specs.declared.Stretched.{Stretched}
use Rattle.stretch.specs.Stretches.{first_in, past_in, pairs_in, bytes_in, stretch_pairs, span_at, span_refusal, stretch_refusal, stretch_asked, stretch_numbers, Stretches}
use Rattle.stretch.specs.Said.{PutsPairs}
use Rattle.stretch.specs.declared.StretchTotals.{StretchTotals}
use Rattle.stretch.proofs.Puts.{pairs_no_room, pairs_put}

-- ---- the refusal

-- what a stretch that is not refused so far has
pub record InSpan (s : List ℕ) (w : Source) (id a b : ℕ) : Type 0 where
  pub asks : ask_refusal s w id ≡ 0
  pub order : a < b
  pub ends : b ≤ total_in (track_asked s id)

pub in_span_of : (s : List ℕ) (w : Source) (id a b : ℕ) → span_at s w id a b ≡ 0 → InSpan s w id a b
in_span_of s w id a b e =
    let n = none_else _ _ e in
    let h = cond_zero _ 15 (omega arith) n.1 in
    record { asks = n.0; order = ltb-true a b (and_left _ _ h); ends = leb-true b _ (and_right (ltb a b) _ h) }

pub span_low : (s : List ℕ) (w : Source) (id : ℕ) (a b : MediaTime) → span_refusal s w id a b ≤ 21
unfolding span_refusal
span_low s w id a b = else_low _ _ (ask_low s w id) (go (ltb a.0 b.0 && leb b.0 (total_in (track_asked s id))))
  where
    go : (c : Bool) → cond c 0 15 ≤ 21
    go true = omega arith
    go false = omega arith

-- ---- the track

pub usable_below : (bound : ℕ) (s t : List ℕ) (w : Source) (id : ℕ) → ask_refusal s w id ≡ 0 → t ≡ track_asked s id → length_of w s < bound → Usable bound t
usable_below bound s t w id e d h =
    let a = asked s w id e in
    rw d (record {
      short = omega (arith, a.short, a.file.shape.short);
      agree = a.track.agree;
      few_samples = a.track.shape.few_samples;
      few_chunks = a.track.shape.few_chunks;
      limit = length_of w s;
      low = h;
      within = a.track.within;
    })

-- an accepted file, and a whole one, which has at most 2,147,483,647 bytes
pub file_low : (s : List ℕ) (w : Source) (id : ℕ) → ask_refusal s w id ≡ 0 → length_of w s < 2 ^ 64
file_low s w id e = omega (arith, (asked s w id e).file.shape.low)

pub whole_low : (s : List ℕ) (w : Source) (id : ℕ) → ask_refusal s w id ≡ 0 → w ≡ whole_file → length_of w s < 2 ^ 32
unfolding length_of
whole_low s w id e h =
    let l : length_of w s ≡ length s = ap (λ (x : Source). cond x.alone x.length (length s)) h in
    omega (arith, l, (asked s w id e).file.shape.short)

-- of any film, and of a whole file
pub usable : (s t : List ℕ) (w : Source) (id : ℕ) → ask_refusal s w id ≡ 0 → t ≡ track_asked s id → Usable (2 ^ 64) t
usable s t w id e d = usable_below (2 ^ 64) s t w id e d (omega (arith, (asked s w id e).file.shape.low))

pub usable_whole : (s t : List ℕ) (w : Source) (id : ℕ) → ask_refusal s w id ≡ 0 → t ≡ track_asked s id → w.alone ≡ false → Usable (2 ^ 32) t
unfolding length_of
usable_whole s t w id e d h =
    let l : length_of w s ≡ length s = ap (λ (x : Bool). cond x w.length (length s)) h in
    usable_below (2 ^ 32) s t w id e d (omega (arith, l, (asked s w id e).file.shape.short))

-- ---- what is asked

module _ (s : List ℕ) (w : Source) (id a b : ℕ) where
  abbrev within : Bool
  within = ltb a b && leb b (total_in (track_asked s id))

  pub film_span : (e : Refusal) → ask_refusal s w id ≡ number e → SpanAsked s w id a b (Err e)
  film_span e h = record { refusal = sym (or_err (ask_refusal s w id) _ e h); trak = λ x q. not_both _ e x refl q; span = λ x q. not_both _ e x refl q }

  module _ (z : ask_refusal s w id ≡ 0) (g : Result Span Refusal) (eg : g ≡ span_in (track_asked s id) a b) where
    by_code : (x : Bool) (q : Span) → code (cond x (Ok q) (Err Outside)) ≡ cond x 0 15
    by_code true q = refl
    by_code false q = refl

    span_code : code g ≡ span_at s w id a b
    unfolding span_in or_else
    span_code = rw (eg, z) (by_code within _)

    pub err_span : (e : Refusal) → g ≡ Err e → SpanAsked s w id a b (Err e)
    err_span e q = record { refusal = sym (ap code q) ∙ span_code; trak = λ x h. not_both _ e x refl h; span = λ x h. not_both _ e x refl h }

    by_samples : (x : Bool) (q p : Span) → Ok p ≡ cond x (Ok q) (Err Outside) → p ≡ q
    by_samples true q p e = ok_one e
    by_samples false q p e = let z : ◌≡◌ {A = ℕ} 0 1 = cc in absurd (omega arith)

    spanned : (p : Span) → g ≡ Ok p → Spans (track_asked s id) a b p
    unfolding span_in
    spanned p q = let k = by_samples within _ p (sym q ∙ eg) in rw k (record { first = refl; past = refl })

    pub ok_span : (p : Span) → g ≡ Ok p → (x : Trak) → IsTrak s (track_asked s id) x → SpanAsked s w id a b (Ok (record { trak = x; span = p }))
    ok_span p q x k =
        record {
          refusal = sym (ap code q) ∙ span_code;
          trak = λ y h. let v : x ≡ y.trak = ap (λ (u : Stretched). u.trak) (ok_one h) in rw (← v) k;
          span = λ y h. let v : p ≡ y.span = ap (λ (u : Stretched). u.span) (ok_one h) in rw (← v) (spanned p q);
        }

-- what a question has of it
module _ (s : List ℕ) (w : Source) (id a b : ℕ) (r : Result Stretched Refusal) (h : SpanAsked s w id a b r) (x : Stretched) (q : r ≡ Ok x) where
  pub span_clear : 0 ≡ span_at s w id a b
  span_clear = sym (ap code q) ∙ h.refusal

  pub in_span : InSpan s w id a b
  in_span = in_span_of s w id a b (sym span_clear)

  module _ (t : List ℕ) (e : t ≡ part_in s x.trak.body) where
    pub span_body : t ≡ track_asked s id
    span_body = e ∙ (h.trak x q).body

    pub span_parts : AreParts t x.trak.parts
    span_parts = rw span_body (h.trak x q).parts

    pub span_usable : Usable (2 ^ 64) t
    span_usable = usable s t w id in_span.asks span_body

    pub span_spans : Spans t a b x.span
    span_spans = rw span_body (h.span x q)

-- ---- the stretch of the track that is asked

module _ (s t : List ℕ) (w : Source) (id : ℕ) (a b : MediaTime) (i : InSpan s w id a.0 b.0) (d : t ≡ track_asked s id) (p : Span) (q : Spans t a.0 b.0 p) where
  ready : Usable (2 ^ 64) t
  ready = usable s t w id i.asks d

  pub pairs_are : span_pairs t p ≡ stretch_pairs s id a b
  unfolding span_pairs stretch_pairs pairs_in first_in past_in track_of
  pairs_are = rw (q.first, q.past, d)

  -- the samples are those of the track
  bounds : (p.from < p.stop) × (p.stop ≤ samples_of t)
  unfolding total_in
  bounds =
      let ds = per_sample (table_of stts t) in
      let o : b.0 ≤ sum ds = rw d i.ends in
      let h = i.order in
      let k = holds_below ds (b.0 - 1) (holder ds (b.0 - 1)) (holder_holds ds (b.0 - 1) (omega arith)) in
      let m = holder_mono ds a.0 (b.0 - 1) (omega arith) in
      (omega (arith, q.first, q.past, m), omega (arith, q.past, k.1, (agreed_tables t ready.agree).counted))

  pub span_order : p.from ≤ p.stop
  span_order = omega (arith, bounds.0)

  pub span_ends : p.stop ≤ samples_of t
  span_ends = bounds.1

  -- the pairs' lengths are the sizes of the samples, added
  pub bytes_are : sum (lengths_of (span_pairs t p)) ≡ bytes_in (track_of (track_asked s id)) a b
  unfolding span_pairs bytes_in first_in past_in track_of
  bytes_are =
      let ps = per_chunk (table_of stsc t) (chunks_of t) in
      let z = touched_sum p.from p.stop 0 ps (chunk_offsets (offset_table t)) (sizes (table_of stsz t)) span_order (omega (arith, bounds.1, (agreed_tables t ready.agree).dealt)) (omega arith) in
      let e : max p.from 0 ≡ p.from = omega arith in
      z ∙ rw e (rw (q.first, q.past, d))

-- ---- the answers

answered : (s : List ℕ) (w : Source) (id : ℕ) (a b : MediaTime) (room : List ℕ) (e : Refusal) → stretch_refusal s w id a b room ≡ number e → Stretches s w id a b room (Err e) room
unfolding stretch_numbers
answered s w id a b room e h =
    puts_err stretch_numbers (refused_with 2) (λ k. refl) (stretch_asked s id a b) (flat (stretch_pairs s id a b)) room (stretch_refusal s w id a b room) e h

pub no_span : (s : List ℕ) (w : Source) (id : ℕ) (a b : MediaTime) (room : List ℕ) (e : Refusal) → span_at s w id a.0 b.0 ≡ number e → Stretches s w id a b room (Err e) room
unfolding stretch_refusal span_refusal
no_span s w id a b room e h = answered s w id a b room e (or_err (span_at s w id a.0 b.0) _ e h)

-- by its pairs, where the refusal before the room is looked at is known
pub as_stretches : (s : List ℕ) (w : Source) (id : ℕ) (a b : MediaTime) (room : List ℕ) (k : ℕ) (qs : List Pair) → span_refusal s w id a b ≡ k → qs ≡ stretch_pairs s id a b
    → sum (lengths_of qs) ≡ bytes_in (track_of (track_asked s id)) a b → (r : Result StretchTotals Refusal) (after : List ℕ) → PutsPairs k qs room r after → Stretches s w id a b room r after
unfolding stretch_refusal
as_stretches s w id a b room k qs ek eq eb r after p = rw (ek, ← eb, ← eq) p

module _ (s t room : List ℕ) (w : Source) (id : ℕ) (a b : MediaTime) (z : 0 ≡ span_at s w id a.0 b.0) (d : t ≡ track_asked s id) (p : Span)
    (q : Spans t a.0 b.0 p) (n : ℕ) (c : n ≡ length (span_pairs t p)) where
  spans : InSpan s w id a.0 b.0
  spans = in_span_of s w id a.0 b.0 (sym z)

  same_pairs : span_pairs t p ≡ stretch_pairs s id a b
  same_pairs = pairs_are s t w id a b spans d p q

  as_asked : (x : Result StretchTotals Refusal) (after : List ℕ) → PutsPairs 0 (span_pairs t p) room x after → Stretches s w id a b room x after
  unfolding span_refusal
  as_asked = as_stretches s w id a b room 0 (span_pairs t p) (sym z) same_pairs (bytes_are s t w id a b spans d p q)

  pub no-room : length room / 2 < n → Stretches s w id a b room (Err NoRoom) room
  no-room h = as_asked (Err NoRoom) room (pairs_no_room (span_pairs t p) room n c h)

  pub whole_stretch : (bytes : ℕ) (after : List ℕ) → n ≤ length room / 2 → bytes ≡ sum (lengths_of (span_pairs t p)) → after ≡ sets room 0 (flat (span_pairs t p))
      → Stretches s w id a b room (Ok (record { pairs = n; bytes = bytes })) after
  whole_stretch bytes after h f g = as_asked (Ok (record { pairs = n; bytes = bytes })) after (pairs_put (span_pairs t p) room n c bytes after h f g)

-- of a whole file, by the source that the code makes
pub of_whole : (s : List ℕ) (w : Source) (id : ℕ) (a b : MediaTime) (room : List ℕ) (r : Result StretchTotals Refusal) (after : List ℕ) → w ≡ whole_file
    → Stretches s w id a b room r after → Stretches s whole_file id a b room r after
of_whole s w id a b room r after h p = subst (λ v. Stretches s v id a b room r after) h p

-- in a room of numbers that stand for themselves
pub of_numbers : (s : List ℕ) (w : Source) (id : ℕ) (a b : MediaTime) (room : List ℕ) (r : Result StretchTotals Refusal) (after : List ℕ) → Stretches s w id a b (map (λ (n : ℕ). n) room) r (map (λ (n : ℕ). n) after)
    → Stretches s w id a b room r after
of_numbers s w id a b room r after p = rw (map-id room, map-id after) at p
