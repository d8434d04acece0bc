-- Demand 3 holds of each track that is asked and not refused. The idea: an answer gives the lists at an index, and the laws of lists say the rest.
-- Assumes nothing.
use Prim.Native.Nat.{ℕ, suc, ◌+◌, ◌-◌, ◌≤◌, ◌<◌}
use mathlib.Core.Path.{◌≡◌, refl, sym, ap, ◌∙◌}
use mathlib.Core.Bool.{true}
use mathlib.Core.List.{List, []}
use native.Mathlib.Omega.{arith}
use lib.ListN.{length, get_or}
use Rattle.lists.specs.Lists.{sum, before, holder, Holds}
use Rattle.lists.proofs.Places as places
use Rattle.runs.specs.Runs.{runs_of, per_sample, entry_of}
use Rattle.words.specs.Words.{sizes, chunk_offsets}
use Rattle.chunks.specs.Chunks.{per_chunk, offset_of}
use Rattle.chunks.specs.Computed.{deals_agree}
use Rattle.edits.specs.declared.MediaTime.{MediaTime}
use Rattle.atoms.specs.Kinds.{stts, stsc, stsz}
use Rattle.structure.specs.declared.source.Source.{Source}
use Rattle.structure.specs.Track.{id_of, table_of, offset_table, samples_of, chunks_of, descriptions_of}
use Rattle.structure.specs.Movie.{moov_of, tracks_of}
use Rattle.shape.proofs.Shaped.{Shaped}
use Rattle.track.specs.Track.{track_of}
use Rattle.track.proofs.Agreed.{agreed_tables}
use Rattle.questions.specs.Asked.{ask_refusal, track_asked}
use Rattle.questions.proofs.Asking.{asked}
use Rattle.movie.proofs.Answers.{gives_answer}
use Rattle.questions.specs.Samples.{sample_of, sample_refusal, sample_asked, sample_answer, sample_zeros, sample_numbers, Samples}
use Rattle.time_questions.specs.Times.{at_entry, at_answer}
use Rattle.pairs.proofs.Counting.{touched_length}
use Rattle.stretch.specs.Stretches.{first_in, past_in, pairs_in, bytes_in, stretch_pairs}
use Rattle.questions.specs.declared.samples.Sample.{Sample}
use Rattle.theorems.specs.Entries.{media_total}
use Rattle.theorems.specs.Demand.{HasTime, part_in, size_answered, how_many, AllSamples, added, NoZeroDuration, OfTrack, Demand3}
use Rattle.theorems.proofs.Added.{sizes_added, parts_added, cut_at}
use Rattle.chunks.proofs.Dealt.{first_chunk, first_offset, next_offset}
use Rattle.theorems.proofs.Dealt.{gets_of, gets_only, first_low}
use Rattle.theorems.proofs.Lists.{tables_asked, Listed, listed}
use Rattle.theorems.proofs.Entries.{total_is, count_is, entry_counts, size_at, offset_at, entry_holds}
use Rattle.questions.proofs.Own.{own_asked, own_itself}
use Rattle.pairs.proofs.Filling.{flat_length}
use Rattle.theorems.proofs.Answers.{Known, found_is, found_clear, none_is, past_is, found_known, entry_is, at_is, at_outside, at_known, pairs_is, short_is, no_stretch, pairs_known}
use Rattle.std.specs.Prelude.{Result, Ok, Err}
use Rattle.refusals.specs.declared.Refusal.{Refusal}
use Rattle.time_questions.specs.declared.Numbered.{Numbered}

-- ---- what a sample's answer says of the lists

module _ (s : List ℕ) (id n : ℕ) (x : Sample) (u : Known s id n x) where
  decode_is : x.decode ≡ before (tables_asked s id).durations u.index
  unfolding sample_of
  decode_is = ap (λ (y : Sample). y.decode) u.is

  duration_is : x.duration ≡ get_or (tables_asked s id).durations u.index 0
  unfolding sample_of
  duration_is = ap (λ (y : Sample). y.duration) u.is

  chunk_is : x.chunk ≡ suc (holder (tables_asked s id).per_chunk u.index)
  unfolding sample_of
  chunk_is = ap (λ (y : Sample). y.chunk) u.is

  size_is : x.size ≡ get_or (tables_asked s id).sizes u.index 0
  unfolding sample_of
  size_is = ap (λ (y : Sample). y.size) u.is

  offset_is : x.offset ≡ offset_of (tables_asked s id).per_chunk (tables_asked s id).chunk_offsets (tables_asked s id).sizes u.index
  unfolding sample_of
  offset_is = ap (λ (y : Sample). y.offset) u.is

  -- its media times are those that its duration holds
  holds_known : (t : ℕ) → HasTime x t → Holds (tables_asked s id).durations t u.index
  holds_known t h = record { from = omega (arith, decode_is, h.from); to = omega (arith, decode_is, duration_is, h.to) }

-- and the other way round
has_of : (s : List ℕ) (id i t : ℕ) → Holds (tables_asked s id).durations t i → HasTime (sample_of (tables_asked s id) i) t
unfolding sample_of
has_of s id i t h = record { from = h.from; to = h.to }

-- the sample with an index keeps the promise of the question
found_kept : (s : List ℕ) (source : Source) (id : ℕ) (e : ask_refusal s source id ≡ 0) (i : ℕ) → i < samples_of (track_asked s id)
    → Samples s source id (suc i) (Ok (sample_of (tables_asked s id) i))
unfolding sample_numbers
found_kept s source id e i h =
    let w : suc i - 1 ≡ i = omega arith in
    gives_answer sample_numbers sample_zeros (λ k. refl) (sample_asked s id (suc i)) (sample_refusal s source id (suc i)) (Ok (sample_of (tables_asked s id) i))
    (found_clear s source id e (suc i) i refl h) (ap (λ (k : ℕ). Ok (sample_of (tables_asked s id) k)) (sym w))

-- the duration of an index is not zero where it stands at m and no answer there is of zero duration
lasting : (s : List ℕ) (source : Source) (id m : ℕ) (e : ask_refusal s source id ≡ 0) (i : ℕ) → i < samples_of (track_asked s id) → NoZeroDuration s source id m → before (tables_asked s id).durations i ≡ m
    → 0 < get_or (tables_asked s id).durations i 0
unfolding sample_of
lasting s source id m e i h all w = omega (arith, all (suc i) (sample_of (tables_asked s id) i) (found_kept s source id e i h) w)

-- ---- stretches

-- the samples from the one at a to the one at b - 1: n of them, from index i on, which cover the stretch
record Run (s : List ℕ) (id : ℕ) (a b : MediaTime) (first last : ℕ) : Type 0 where
  i : ℕ
  n : ℕ
  begin : first ≡ suc i
  count : how_many first last ≡ n
  here : i ≡ holder (tables_asked s id).durations a.0
  there : i + n ≡ suc (holder (tables_asked s id).durations (b.0 - 1))
  low : before (tables_asked s id).durations i ≤ a.0
  high : b.0 ≤ before (tables_asked s id).durations (i + n)
  few : i + n ≤ samples_of (track_asked s id)

module _ (s : List ℕ) (source : Source) (id : ℕ) (e : ask_refusal s source id ≡ 0) (l : Listed s id) where
  run_of : (a b z : MediaTime) (first last i j : ℕ) → a.0 < b.0 → b.0 ≤ sum (tables_asked s id).durations → z.0 ≡ b.0 - 1
      → at_answer s source id a ≡ Ok (record { sample = first; entry = i }) → at_answer s source id z ≡ Ok (record { sample = last; entry = j }) → Run s id a b first last
  run_of a b z first last i₁ j₁ o w d p q =
      let ds = (tables_asked s id).durations in
      let i = holder ds a.0 in
      let j = holder ds (b.0 - 1) in
      let f = at_known s source id e a first i₁ p in
      let g = at_known s source id e z last j₁ q in
      let k : last ≡ suc j = g.1 ∙ rw d in
      let m : i ≤ j = places.holder_mono ds a.0 (b.0 - 1) (omega arith) in
      let t : i + (suc j - i) ≡ suc j = omega arith in
      let u = places.holder_holds ds a.0 f.0 in
      let v = places.holder_holds ds (b.0 - 1) (omega arith) in
      record {
        i = i;
        n = suc j - i;
        begin = f.1;
        count = omega (arith, f.1, k);
        here = refl;
        there = t;
        low = u.from;
        high = rw t (omega (arith, v.to, places.before_suc ds j));
        few = omega (arith, t, (places.holds_below ds (b.0 - 1) j v).1, l.timed);
      }

  module _ (a b : MediaTime) (first last : ℕ) (r : Run s id a b first last) where
    -- the answer of each
    each : (j : ℕ) → j < r.n → sample_answer s source id (first + j) ≡ Ok (sample_of (tables_asked s id) (r.i + j))
    each j h = found_is s source id e (first + j) (r.i + j) (omega (arith, r.begin)) (omega (arith, r.few))

    sizes_fit : (rs : ℕ → Result Sample Refusal) → AllSamples s source id rs first last → bytes_in (tables_asked s id) a b ≡ added rs size_answered first last
    unfolding sample_of bytes_in first_in past_in
    sizes_fit rs keep =
        rw (r.count, ← r.here, ← r.there)
        (sym (sizes_added (tables_asked s id).sizes (λ j. size_answered (rs (first + j))) r.i r.n
        (λ j h. ap size_answered ((keep (first + j) (omega arith) (omega (arith, r.count))).answer ∙ each j h))))

-- a stretch cut at the start of the sample with index i
cut_fits : (s : List ℕ) (id : ℕ) (a m b : MediaTime) (i : ℕ)
    → ((k : ℕ) → k < length (tables_asked s id).durations → before (tables_asked s id).durations k ≡ before (tables_asked s id).durations i → 0 < get_or (tables_asked s id).durations k 0)
    → i < length (tables_asked s id).durations → m.0 ≡ before (tables_asked s id).durations i → a.0 < m.0 → m.0 < b.0
    → bytes_in (tables_asked s id) a b ≡ bytes_in (tables_asked s id) a m + bytes_in (tables_asked s id) m b
unfolding bytes_in first_in past_in
cut_fits s id a m b i pos h d o w = rw d (cut_at (tables_asked s id).durations (tables_asked s id).sizes a.0 b.0 i pos h (omega arith) (omega arith))

-- one pair for each chunk from that of the first sample to that of the last
pairs-fit : (s : List ℕ) (id : ℕ) → Listed s id → (a b : MediaTime) → b.0 - 1 < sum (tables_asked s id).durations
    → length (stretch_pairs s id a b)
    ≡ suc (suc (holder (tables_asked s id).per_chunk (holder (tables_asked s id).durations (b.0 - 1)))) - suc (holder (tables_asked s id).per_chunk (holder (tables_asked s id).durations a.0))
unfolding stretch_pairs pairs_in first_in past_in
pairs-fit s id l a b h =
    let ds = (tables_asked s id).durations in
    let ps = (tables_asked s id).per_chunk in
    let i = holder ds a.0 in
    let j = holder ds (b.0 - 1) in
    let z : suc j - 1 - 0 ≡ j = omega arith in
    let y : i - 0 ≡ i = omega arith in
    let low = (places.holds_below ds (b.0 - 1) j (places.holder_holds ds (b.0 - 1) h)).1 in
    let k = (places.holds_below ps j (holder ps j) (places.holder_holds ps j (omega (arith, low, l.timed, l.dealt)))).1 in
    omega (arith, rw (z, y) at (touched_length i (suc j) 0 ps (tables_asked s id).chunk_offsets (tables_asked s id).sizes (omega arith) (omega arith)), k)

-- the parts of all samples
all_parts : (s : List ℕ) (source : Source) (id : ℕ) → ask_refusal s source id ≡ 0 → Listed s id → (a b : ℕ) → a < b → b ≤ sum (tables_asked s id).durations
    → (rs : ℕ → Result Sample Refusal) → AllSamples s source id rs 1 (samples_of (track_asked s id)) → added rs (part_in a b) 1 (samples_of (track_asked s id)) ≡ b - a
unfolding sample_of
all_parts s source id e l a b o w rs keep =
    let n = samples_of (track_asked s id) in
    let c : suc n - 1 ≡ n = omega arith in
    rw c
    (parts_added (tables_asked s id).durations (λ j. part_in a b (rs (1 + j))) a b n (omega arith) w l.timed
    (λ j h. ap (part_in a b) ((keep (1 + j) (omega arith) (omega arith)).answer ∙ found_is s source id e (1 + j) j (omega arith) h)))

-- ---- the claim

-- the track asked by the ID of t is t, so that its lists are what the entries of t say
module _ (s t : List ℕ) (source : Source) (e : ask_refusal s source (id_of t) ≡ 0) (itself : track_asked s (id_of t) ≡ t) where
  shape : Shaped t
  shape = rw itself at (asked s source (id_of t) e).track.shape

  many : samples_of (track_asked s (id_of t)) ≡ samples_of t
  many = ap samples_of itself

  chunked : chunks_of (track_asked s (id_of t)) ≡ chunks_of t
  chunked = ap chunks_of itself

  durations_are : (tables_asked s (id_of t)).durations ≡ per_sample (table_of stts t)
  unfolding track_of
  durations_are = ap (λ u. per_sample (table_of stts u)) itself

  sizes_are : (tables_asked s (id_of t)).sizes ≡ sizes (table_of stsz t)
  unfolding track_of
  sizes_are = ap (λ u. sizes (table_of stsz u)) itself

  offsets_are : (tables_asked s (id_of t)).chunk_offsets ≡ chunk_offsets (offset_table t)
  unfolding track_of
  offsets_are = ap (λ u. chunk_offsets (offset_table u)) itself

  dealt_are : (tables_asked s (id_of t)).per_chunk ≡ per_chunk (table_of stsc t) (chunks_of t)
  unfolding track_of
  dealt_are = ap (λ u. per_chunk (table_of stsc u) (chunks_of u)) itself

  agree : deals_agree (table_of stsc t) (chunks_of t) (descriptions_of t) ≡ true
  agree = (agreed_tables t (rw itself at (asked s source (id_of t) e).track.agree)).deals

  total : sum (tables_asked s (id_of t)).durations ≡ media_total t
  total = ap sum durations_are ∙ total_is t shape

  pub of_track : OfTrack s t source
  of_track =
      let id = id_of t in
      let l = listed s source id e in
      let ds = (tables_asked s id).durations in
      let zs = (tables_asked s id).sizes in
      let ps = (tables_asked s id).per_chunk in
      let cs = (tables_asked s id).chunk_offsets in
      record {
        asked = e;
        itself = itself;
        found = λ n lo hi r q. (sample_of (tables_asked s id) (n - 1), q.answer ∙ found_is s source id e n (n - 1) (omega arith) (omega (arith, many)));
        none = λ r q. q.answer ∙ none_is s source id e;
        past = λ n h r q. q.answer ∙ past_is s source id e n (omega (arith, many));
        counted = sym (count_is t shape) ∙ ap length (sym durations_are) ∙ l.timed ∙ many;
        starts = λ x q.
            let u = found_known s source id e 1 x (sym q.answer) in
            let v : u.index ≡ 0 = omega (arith, u.number) in
            omega (arith, decode_is s id 1 x u, ap (before ds) v);
        follows = λ n x y p q.
            let u = found_known s source id e n x (sym p.answer) in
            let v = found_known s source id e (suc n) y (sym q.answer) in
            let w : v.index ≡ suc u.index = omega (arith, u.number, v.number) in
            omega (arith, decode_is s id n x u, duration_is s id n x u, decode_is s id (suc n) y v, ap (before ds) w, places.before_suc ds u.index);
        lasts = λ n x q.
            let u = found_known s source id e n x (sym q.answer) in
            let k = entry_counts t shape n u.index u.number (omega (arith, u.low, l.timed, ap length durations_are)) in
            (k.0, k.1, duration_is s id n x u ∙ ap (λ (y : List ℕ). get_or y u.index 0) durations_are ∙ k.2);
        sized = λ n x q.
            let u = found_known s source id e n x (sym q.answer) in
            size_is s id n x u ∙ ap (λ (y : List ℕ). get_or y u.index 0) sizes_are ∙ size_at t shape n u.index u.number (omega (arith, u.low, many));
        named = λ time h r kept.
            let i = holder ds time.0 in
            let k = places.holder_holds ds time.0 (omega (arith, total)) in
            let low : i < samples_of (track_asked s id) = omega (arith, (places.holds_below ds time.0 i k).1, l.timed) in
            let f = found_is s source id e (suc i) i refl low in
            let c = entry_counts t shape (suc i) i refl (omega (arith, low, l.timed, ap length durations_are)) in
            let g : at_entry s id time ≡ suc c.0 = entry_is s id time ∙ ap (λ u. entry_of (runs_of (table_of stts u)) i) itself ∙ c.3 in (
              suc i,
              c.0,
              kept.answer ∙ at_is s source id e time (omega (arith, total)) ∙ ap (λ (k : ℕ). Ok (record { sample = suc i; entry = k })) g,
              c.1,
              λ q v. (sample_of (tables_asked s id) i, v.answer ∙ f, has_of s id i time.0 k),
              λ m y q w.
                  let u = found_known s source id e m y (sym q.answer) in
                  u.number ∙ ap suc (places.holder_only ds time.0 u.index (holds_known s id m y u time.0 w)),
            );
        outside = λ time h. (
          λ r v. v.answer ∙ at_outside s source id e time (omega (arith, total)),
          λ m y q w.
              let u = found_known s source id e m y (sym q.answer) in
              omega (arith, total, (places.holds_below ds time.0 u.index (holds_known s id m y u time.0 w)).0),
        );
        per_chunk = ps;
        deals = record {
          chunks = l.chunks ∙ chunked;
          each = λ c lo hi.
              let k = entry_holds t shape (descriptions_of t) agree c lo hi in
              (k.0, k.1, ap (λ (y : List ℕ). get_or y (c - 1) 0) dealt_are ∙ k.2);
          all = l.dealt ∙ many;
        };
        in_chunk = λ n x q.
            let u = found_known s source id e n x (sym q.answer) in
            gets_of ps u.index (holder ps u.index) x.chunk n (chunk_is s id n x u) u.number (places.holder_holds ps u.index (omega (arith, u.low, l.dealt)));
        gets = λ c n g r v.
            let o : n ≡ suc (n - 1) = omega (arith, g.after) in
            let f = found_is s source id e n (n - 1) o (omega (arith, g.after, g.upto, places.before_le ps c, l.dealt)) in
            let u = found_known s source id e n (sample_of (tables_asked s id) (n - 1)) f in
            (sample_of (tables_asked s id) (n - 1), v.answer ∙ f, chunk_is s id n (sample_of (tables_asked s id) (n - 1)) u ∙ sym (gets_only ps u.index c n u.number g));
        first-in = λ c lo hi r q.
            let k = l.some (c - 1) (omega (arith, l.chunks, chunked)) in
            let i = before ps (c - 1) in
            let f = found_is s source id e (suc i) i refl (omega (arith, first_low ps (c - 1) k, l.dealt)) in
            let u = found_known s source id e (suc i) (sample_of (tables_asked s id) i) f in
            let v : u.index ≡ i = omega (arith, u.number) in (
              sample_of (tables_asked s id) i,
              q.answer ∙ f,
              chunk_is s id (suc i) (sample_of (tables_asked s id) i) u ∙ rw v (omega (arith, first_chunk ps (c - 1) k)),
              offset_is s id (suc i) (sample_of (tables_asked s id) i) u ∙ rw v (first_offset ps (c - 1) k cs zs) ∙ ap (λ (y : List ℕ). get_or y (c - 1) 0) offsets_are ∙ offset_at t shape c lo hi,
            );
        next_in = λ n x y p q same.
            let u = found_known s source id e n x (sym p.answer) in
            let v = found_known s source id e (suc n) y (sym q.answer) in
            let w : v.index ≡ suc u.index = omega (arith, u.number, v.number) in
            let g : holder ps u.index ≡ holder ps (suc u.index) = omega (arith, same, chunk_is s id n x u, chunk_is s id (suc n) y v, ap (holder ps) w) in
            omega (
              arith,
              offset_is s id n x u,
              size_is s id n x u,
              offset_is s id (suc n) y v,
              ap (offset_of ps cs zs) w,
              next_offset ps cs zs u.index (omega (arith, u.low, l.dealt)) (sym g),
            );
        parts = λ a b o w rs keep.
            ap (added rs (part_in a b) 1) (sym many) ∙ all_parts s source id e l a b o (omega (arith, total)) rs (λ n lo hi. keep n lo (omega (arith, many)));
        answered = λ a b o w. (
          length (stretch_pairs s id a b),
          bytes_in (tables_asked s id) a b,
          λ room h r after v. v.answer ∙ pairs_is s source id e a b room o (omega (arith, total)) (omega (arith, flat_length (stretch_pairs s id a b))),
          λ room h r after v. v.answer ∙ short_is s source id e a b room o (omega (arith, total)) (omega (arith, flat_length (stretch_pairs s id a b))),
        );
        refused = λ a b n room r after v. v.answer ∙ no_stretch s source id e a b (λ w. n (w.0, omega (arith, w.1, total))) room;
        pairs = λ a b z room after k total' first last i j x y g d p q f h.
            let r = pairs_known s source id a b room k total' (sym g.answer) in
            let v = at_known s source id e a first i (sym p.answer) in
            let w = at_known s source id e z last j (sym q.answer) in
            let t : holder ds z.0 ≡ holder ds (b.0 - 1) = ap (holder ds) d in
            let u₁ = found_known s source id e first x (sym f.answer) in
            let u₂ = found_known s source id e last y (sym h.answer) in
            let i₁ : u₁.index ≡ holder ds a.0 = omega (arith, u₁.number, v.1) in
            let i₂ : u₂.index ≡ holder ds (b.0 - 1) = omega (arith, u₂.number, w.1, t) in
            omega (
              arith,
              r.count,
              pairs-fit s id l a b (omega (arith, w.0, d)),
              chunk_is s id first x u₁,
              ap (holder ps) i₁,
              chunk_is s id last y u₂,
              ap (holder ps) i₂,
            );
        bytes = λ a b z room after k total first last i j g d p q rs keep.
            let r = pairs_known s source id a b room k total (sym g.answer) in
            let m = run_of s source id e l a b z first last i j r.span.order r.span.within d (sym p.answer) (sym q.answer) in
            r.total ∙ sizes_fit s source id e l a b first last m rs keep;
        cut = λ a m b pos n x f d o w room₁ room₂ room after₁ after₂ after k₁ k₂ k bytes₁ bytes₂ bytes p q r.
            let u = found_known s source id e n x (sym f.answer) in
            let all : (i : ℕ) → i < length ds → before ds i ≡ before ds u.index → 0 < get_or ds i 0 = λ i h q'.
            lasting s source id m.0 e i (omega (arith, l.timed)) pos (q' ∙ sym (d ∙ decode_is s id n x u)) in
            let c = cut_fits s id a m b u.index all (omega (arith, u.low, l.timed)) (d ∙ decode_is s id n x u) o w in
            omega (
              arith,
              c,
              (pairs_known s source id a m room₁ k₁ bytes₁ (sym p.answer)).total,
              (pairs_known s source id m b room₂ k₂ bytes₂ (sym q.answer)).total,
              (pairs_known s source id a b room k bytes (sym r.answer)).total,
            );
      }

pub demand3 : (s : List ℕ) (source : Source) → Demand3 s source
demand3 s source e i h = of_track s (get_or (tracks_of (moov_of s)) i []) source (own_asked s source e i h) (own_itself s source e i h)
