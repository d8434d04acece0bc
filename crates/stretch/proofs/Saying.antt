-- A stretch by the bytes of its tables: the ways out of the code, and of the tables of an accepted track the answer of the question.
-- Assumes nothing.
use Prim.Native.Nat.{ℕ, ◌/◌, ◌^◌, ◌≤◌, ◌<◌}
use mathlib.Core.Path.{◌≡◌, refl, sym, ap, ◌∙◌}
use mathlib.Core.Bool.{Bool, true, false, cond, ◌&&◌}
use mathlib.Core.List.{List, []}
use native.Mathlib.Omega.{arith}
use borrow.Author.Tests.{ltb-true, leb-true, ne_eqb}
use lib.Dec.{ltb, leb}
use lib.ListN.{length, get_or}
use lib.Seq.{sets}
use Rattle.bigendian.specs.BigEndian.{u32_at}
use Rattle.atoms.specs.Kinds.{stts, stsc, stsz}
use Rattle.lists.specs.Lists.{sum}
use Rattle.lists.proofs.Booleans.{and_left, and_right}
use Rattle.structure.specs.declared.source.Source.{Source}
use Rattle.structure.specs.Track.{table_of, offset_table, samples_of, chunks_of}
use Rattle.structure.specs.Rows.{or_else}
use Rattle.track.specs.Refusals.{total_in}
use Rattle.movie.specs.Rooms.{room_after}
use Rattle.pairs.specs.Pairs.{flat}
use Rattle.pairs.specs.Walks.{pairs_between, count_between, lengths_of, Putting}
use Rattle.pair_checks.specs.Fits.{pairs_fit}
use Rattle.pair_checks.proofs.Fits.{fits_putting, fitting_fits}
use Rattle.spans.specs.Spans.{Usable, Spans, span_of, is_span, span_said, span_pairs}
use Rattle.spans.specs.declared.Span.{Span}
use Rattle.std.specs.Prelude.{Result, Ok, Err}
use Rattle.refusals.specs.Refusals.{number}
use Rattle.refusals.specs.declared.Refusal.{Refusal}
use Rattle.refusals.specs.declared.Refusal.TheVariants.{Outside, NoRoom}
use Rattle.movie.proofs.Refused.{or_err}
use Rattle.spans.proofs.Spanning.{table_fits, track_span, count_same, pairs-fit}
use Rattle.questions.specs.Asked.{ask_refusal, track_asked}
use Rattle.edits.specs.declared.MediaTime.{MediaTime}
use Rattle.stretch.specs.Stretches.{span_at, span_refusal, Stretches}
use Rattle.stretch.specs.Said.{is_stretch, asked_said, said_refusal, said_pairs, PutsPairs, StretchSaid}
use Rattle.stretch.specs.declared.StretchTotals.{StretchTotals}
use Rattle.stretch.proofs.Puts.{pairs_refused, pairs_no_room, pairs_put}
use Rattle.stretch.proofs.Spanning.{InSpan, usable, span_order, pairs_are, bytes_are, no_span, as_stretches}

-- ---- the ways out

-- samples, or refused
by_span : (x : Bool) (q p : Span) → Ok p ≡ cond x (Ok q) (Err Outside) → (x ≡ true) × (p ≡ q)
by_span true q p e = (refl, cc)
by_span false q p e = let z : ◌≡◌ {A = ℕ} 0 1 = cc in absurd (omega arith)

by_15 : (x : Bool) (q : Span) (r : Refusal) → Err r ≡ cond x (Ok q) (Err Outside) → (x ≡ false) × (r ≡ Outside)
by_15 true q r e = let z : ◌≡◌ {A = ℕ} 0 1 = cc in absurd (omega arith)
by_15 false q r e = (refl, cc)

module _ (d c z o : List ℕ) (samples chunks : ℕ) (a b : MediaTime) (g : Result Span Refusal) where
  -- of `asked_of`
  module _ (eg : g ≡ span_said d samples a.0 b.0) where
    pub not_asked : (r : Refusal) → g ≡ Err r → Err r ≡ asked_said d c z o samples chunks a b
    unfolding span_said asked_said is_stretch
    not_asked r e = let k = by_15 (is_span d samples a.0 b.0) _ r (sym e ∙ eg) in rw (k.0, k.1)

    module _ (p : Span) (e : g ≡ Ok p) (f : Bool) (h : f ≡ pairs_fit c z o chunks p.from p.stop) where
      fits_asked : (x : Bool) → f ≡ x → cond x (Ok p) (Err Outside) ≡ asked_said d c z o samples chunks a b
      unfolding span_said asked_said is_stretch
      fits_asked x v = let k = by_span (is_span d samples a.0 b.0) _ p (sym e ∙ eg) in rw (k.0, k.1, sym (rw k.1 at h) ∙ v)

      pub asked_fits : f ≡ true → Ok p ≡ asked_said d c z o samples chunks a b
      asked_fits = fits_asked true

      pub asked_too_large : f ≡ false → Err Outside ≡ asked_said d c z o samples chunks a b
      asked_too_large = fits_asked false

  -- the refusal, from what is asked
  module _ (eg : g ≡ asked_said d c z o samples chunks a b) where
    pub none_said : (p : Span) → g ≡ Ok p → 0 ≡ said_refusal d c z o samples chunks a b
    unfolding asked_said said_refusal
    none_said p e = let k = by_span (is_stretch d c z o samples chunks a b) _ p (sym e ∙ eg) in rw k.0

    pub refusal_said : (r : Refusal) → g ≡ Err r → number r ≡ said_refusal d c z o samples chunks a b
    unfolding asked_said said_refusal
    refusal_said r e = let k = by_15 (is_stretch d c z o samples chunks a b) _ r (sym e ∙ eg) in rw k.0 (ap number k.1)

  -- of `stretch_in`
  module _ (eg : g ≡ asked_said d c z o samples chunks a b) (room : List ℕ) where
    pub said_refused : (r : Refusal) → g ≡ Err r → StretchSaid d c z o samples chunks a b room (Err r) room
    unfolding asked_said said_refusal or_else
    said_refused r e = let k = by_15 (is_stretch d c z o samples chunks a b) _ r (sym e ∙ eg) in rw (k.0, k.1) (pairs_refused Outside (said_pairs d c z o chunks a b) room)

    module _ (p : Span) (e : g ≡ Ok p) where
      pub said_fits : pairs_fit c z o chunks p.from p.stop ≡ true
      unfolding asked_said is_stretch
      said_fits = let k = by_span (is_stretch d c z o samples chunks a b) _ p (sym e ∙ eg) in rw k.1 (and_right (is_span d samples a.0 b.0) _ k.0)

      pub said_put : (r : Result StretchTotals Refusal) (after : List ℕ) → PutsPairs 0 (pairs_between c z o chunks p.from p.stop) room r after → StretchSaid d c z o samples chunks a b room r after
      unfolding asked_said said_refusal said_pairs
      said_put r after h = let k = by_span (is_stretch d c z o samples chunks a b) _ p (sym e ∙ eg) in let q = rw k.1 at h in rw k.0 q

-- of `put_span`
module _ (c z o : List ℕ) (chunks : ℕ) (p : Span) (room : List ℕ) (n : ℕ) (e : n ≡ count_between c chunks p.from p.stop) where
  many : n ≡ length (pairs_between c z o chunks p.from p.stop)
  many = e ∙ count_same c z o chunks p.from p.stop

  pub span_no_room : length room / 2 < n → PutsPairs 0 (pairs_between c z o chunks p.from p.stop) room (Err NoRoom) room
  span_no_room = pairs_no_room (pairs_between c z o chunks p.from p.stop) room n many

  pub span_putting : pairs_fit c z o chunks p.from p.stop ≡ true → ((i : ℕ) → get_or z i 0 < 256) → p.stop ≤ 4294967295 → n ≤ length room / 2
      → Putting (2 ^ 64) c z o chunks p.from p.stop (length room)
  span_putting f y l h = fits_putting c z o chunks p.from p.stop f y l (length room) (omega (arith, many))

  pub span_put : (bytes : ℕ) (after : List ℕ) → n ≤ length room / 2 → bytes ≡ sum (lengths_of (pairs_between c z o chunks p.from p.stop))
      → after ≡ sets room 0 (flat (pairs_between c z o chunks p.from p.stop)) → PutsPairs 0 (pairs_between c z o chunks p.from p.stop) room (Ok (record { pairs = n; bytes = bytes })) after
  span_put = pairs_put (pairs_between c z o chunks p.from p.stop) room n many

-- ---- by the tables of the track that is asked

abbrev pub SaidOf : List ℕ → MediaTime → MediaTime → List ℕ → Result StretchTotals Refusal → List ℕ → Type 0
SaidOf t a b room r after = StretchSaid (table_of stts t) (table_of stsc t) (table_of stsz t) (offset_table t) (samples_of t) (chunks_of t) a b room r after

module _ (s : List ℕ) (w : Source) (id : ℕ) (a b : MediaTime) (e : ask_refusal s w id ≡ 0) (room : List ℕ) (r : Result StretchTotals Refusal) (after : List ℕ) where
  abbrev track : List ℕ
  track = track_asked s id

  ready : Usable (2 ^ 64) track
  ready = usable s track w id e refl

  abbrev within : Bool
  within = ltb a.0 b.0 && leb b.0 (total_in track)

  abbrev span : Span
  span = span_of (table_of stts track) a.0 b.0

  in_span : within ≡ true → InSpan s w id a.0 b.0
  in_span h = record { asks = e; order = ltb-true _ _ (and_left _ _ h); ends = leb-true _ _ (and_right (ltb a.0 b.0) _ h) }

  spans : Spans track a.0 b.0 span
  spans = record { first = refl; past = refl }

  -- its pairs fit
  refusal_is : (x : Bool) → within ≡ x → said_refusal (table_of stts track) (table_of stsc track) (table_of stsz track) (offset_table track) (samples_of track) (chunks_of track) a b ≡ cond x 0 15
  unfolding said_refusal is_stretch span_pairs
  refusal_is true h =
      let o = span_order s track w id a b (in_span h) refl span spans in
      let f = fitting_fits (table_of stsc track) (table_of stsz track) (offset_table track) (chunks_of track) span.from span.stop (table_fits stsc track (table_of stsc track) refl ready) (pairs-fit track span ready o) in
      rw (track_span track a.0 b.0 ready, h, f)
  refusal_is false h = rw (track_span track a.0 b.0 ready, h)

  by_within : (x : Bool) → within ≡ x → SaidOf track a b room r after → Stretches s w id a b room r after
  unfolding or_else said_pairs span_pairs span_refusal room_after
  by_within true h p =
      let q = rw (refusal_is true h) at p in
      let i = in_span h in
      let z : span_refusal s w id a b ≡ 0 = rw (e, h) in
      as_stretches s w id a b room 0 (span_pairs track span) z (pairs_are s track w id a b i refl span spans) (bytes_are s track w id a b i refl span spans) r after q
  by_within false h p =
      let q = rw (refusal_is false h) at p in
      let z : 15 ≡ span_at s w id a.0 b.0 = rw (e, h) in
      rw (q.answer, q.places) (no_span s w id a b room Outside (sym z))

  -- the answer of the question
  pub said_stretches : SaidOf track a b room r after → Stretches s w id a b room r after
  said_stretches p = by_within within refl p

-- its refusal before the room is looked at
pub said_span : (s : List ℕ) (w : Source) (id : ℕ) (a b : MediaTime) → ask_refusal s w id ≡ 0
    → said_refusal (table_of stts (track_asked s id)) (table_of stsc (track_asked s id)) (table_of stsz (track_asked s id)) (offset_table (track_asked s id)) (samples_of (track_asked s id)) (chunks_of (track_asked s id)) a b
    ≡ span_refusal s w id a b
unfolding span_refusal or_else
said_span s w id a b e =
    let t = track_asked s id in
    refusal_is s w id a b e [] (Err Outside) [] (ltb a.0 b.0 && leb b.0 (total_in t)) refl ∙ rw e

-- the same, from what the code has
pub film_refused : (s : List ℕ) (w : Source) (id : ℕ) (a b : MediaTime) (room : List ℕ) (e : Refusal) → ask_refusal s w id ≡ number e → Stretches s w id a b room (Err e) room
film_refused s w id a b room e h = no_span s w id a b room e (or_err (ask_refusal s w id) _ e h)

pub said_asked : (s t : List ℕ) (w : Source) (id : ℕ) (a b : MediaTime) → ask_refusal s w id ≡ 0 → t ≡ track_asked s id → (d c z o : List ℕ) (samples chunks : ℕ) → d ≡ table_of stts t
    → c ≡ table_of stsc t → z ≡ table_of stsz t → o ≡ offset_table t → samples ≡ u32_at z 16 → chunks ≡ u32_at o 12 → (room : List ℕ) (r : Result StretchTotals Refusal) (after : List ℕ)
    → StretchSaid d c z o samples chunks a b room r after → Stretches s w id a b room r after
said_asked s t w id a b q f d c z o samples chunks ed ec ez eo es eh room r after p =
    let n : samples ≡ samples_of t = es ∙ rw ez in
    let m : chunks ≡ chunks_of t = eh ∙ rw eo in
    said_stretches s w id a b q room r after (rw (ed, ec, ez, eo, n, m, f) at p)
