-- A sample by the bytes of its tables: from what the code has; of any tables; and of those of an accepted track, where it is what the track says.
-- Assumes nothing.
use Prim.Native.Nat.{ℕ, suc, ◌+◌, ◌-◌, ◌^◌, ◌≤◌, ◌<◌, min}
use mathlib.Core.Path.{◌≡◌, refl, sym, ap, ◌∙◌}
use mathlib.Core.List.{List}
use mathlib.Core.Bool.{Bool, true, false, cond, ◌&&◌}
use native.Mathlib.Omega.{arith}
use native.Mathlib.Decide.{ℕ_discrete, dec_lt}
use borrow.Author.Tests.{lt-ltb, le-ltb, le-leb, lt-leb, ltb-true, leb-true}
use lib.ListN.{length, get_or}
use lib.Dec.{ltb, leb}
use lib.IntN.{ℤ, pos, ◌+ℤ◌}
use Rattle.std.specs.Prelude.{Result, Ok, Err}
use Rattle.refusals.specs.declared.Refusal.{Refusal}
use Rattle.refusals.specs.declared.Refusal.TheVariants.{Outside}
use Rattle.refusals.specs.Refusals.{refused}
use Rattle.bigendian.specs.BigEndian.{u32_at}
use Rattle.atoms.specs.Kinds.{stts, ctts, stsc, stsz, stss}
use Rattle.lists.specs.Lists.{holder}
use Rattle.lists.proofs.Places.{each_at, before_le}
use Rattle.lists.proofs.Booleans.{and_both}
use Rattle.runs.specs.Runs.{per_sample, composition_offset, timing_of}
use Rattle.runs.specs.declared.Timing.{Timing}
use Rattle.words.specs.Words.{sizes, chunk_offsets, is_sync}
use Rattle.chunks.specs.Chunks.{per_chunk, description_ids}
use Rattle.chunks.specs.Computed.{located_in, located_offset}
use Rattle.chunks.specs.declared.Located.{Located}
use Rattle.chunks.proofs.Finding.{offset_located}
use Rattle.structure.specs.declared.source.Source.{Source}
use Rattle.structure.specs.Track.{table_of, offset_table, samples_of, chunks_of}
use Rattle.structure.specs.Rows.{or_else}
use Rattle.track.specs.Track.{track_of}
use Rattle.track.specs.Refusals.{total_in}
use Rattle.movie.proofs.Answers.{gives_answer}
use Rattle.questions.specs.Asked.{ask_refusal, track_asked}
use Rattle.questions.specs.Said.{sample_in, is_low, found_as, said_in, is_asked, sample_said}
use Rattle.questions.specs.Samples.{sample_of, sample_refusal, sample_asked, sample_zeros, sample_numbers, Samples}
use Rattle.questions.specs.declared.samples.Sample.{Sample}
use Rattle.questions.proofs.Asking.{asked, table_fits}
use Rattle.questions.proofs.Found.{chunk_known, refused_sample, offset_low}

-- ---- low numbers, test by test

module _ (d c k o : ℕ) where
  pub late : 4294967295 < d → false ≡ is_low d c k o
  unfolding is_low
  late h = rw (le-ltb d 4294967296 (omega arith))

  pub chunk_past : d ≤ 4294967295 → k ≤ c → false ≡ is_low d c k o
  unfolding is_low
  chunk_past h g = rw (lt-ltb d 4294967296 (omega arith), le-ltb c k g)

  pub by_offset : d ≤ 4294967295 → c < k → ltb o 9223372036854775808 ≡ is_low d c k o
  unfolding is_low
  by_offset h g = rw (lt-ltb d 4294967296 (omega arith), lt-ltb c k g)

  pub low_known : is_low d c k o ≡ true → (d < 4294967296) × (c < k) × (o < 2 ^ 63)
  unfolding is_low
  low_known e =
      let a = and_both (ltb d 4294967296) _ e in
      let b = and_both (ltb c k) _ a.1 in
      (ltb-true _ _ a.0, ltb-true _ _ b.0, ltb-true _ _ b.1)

-- ---- the ways out of `sample_found`

module _ (r : Timing) (shift : ℤ) (p : Located) (sync : Bool) (z o : List ℕ) (n i off : ℕ) (b : Bool) (eo : off ≡ min (located_offset (chunk_offsets o) (sizes z) p i) 18446744073709551615)
    (eb : b ≡ is_low r.start p.chunk n off) where
  low_is : is_low r.start p.chunk n (min (located_offset (chunk_offsets o) (sizes z) p i) 18446744073709551615) ≡ b
  low_is = rw (← eo) (sym eb)

  pub found_refused : b ≡ false → refused 15 ≡ found_as r shift p sync z o n i
  unfolding found_as
  found_refused q = rw (low_is ∙ q)

  pub found_is : b ≡ true → (comp : ℤ) (size : ℕ) → comp ≡ pos r.start +ℤ shift → size ≡ get_or (sizes z) i 0
      → Ok (record { decode = r.start; duration = r.duration; composition = comp; sync = sync; description = p.description; chunk = p.chunk + 1; offset = off; size = size })
      ≡ found_as r shift p sync z o n i
  unfolding found_as
  found_is q comp size ec em = rw (low_is ∙ q, eo, ec, em)

-- by what the tables say
pub found_said : (a y c z o k : List ℕ) (n i : ℕ) (r : Timing) (shift : ℤ) (p : Located) (sync : Bool) → r ≡ timing_of (per_sample a) i → shift ≡ composition_offset y i
    → p ≡ located_in (per_chunk c n) (description_ids c n) i → sync ≡ is_sync k (i + 1) → found_as r shift p sync z o n i ≡ said_in a y c z o k n i
unfolding found_as said_in sample_in timing_of located_in
found_said a y c z o k n i r shift p sync er es ep ek =
    let u : i + 1 ≡ suc i = omega arith in
    let v : holder (per_chunk c n) i + 1 ≡ suc (holder (per_chunk c n) i) = omega arith in
    let w = offset_located (per_chunk c n) (description_ids c n) (chunk_offsets o) (sizes z) i in
    rw (er, es, ep, ek, u, v) (rw w refl)

-- ---- the ways out of `sample_of`, of any tables

module _ (a y c z o k : List ℕ) (m chunks n : ℕ) where
  pub said_zero : n ≡ 0 → refused 15 ≡ sample_said a y c z o k m chunks n
  unfolding sample_said
  said_zero e = rw e

  pub said_past : (n ≡ 0 → ⊥) → m < n → refused 15 ≡ sample_said a y c z o k m chunks n
  unfolding sample_said
  said_past h g = rw (lt-ltb 0 n (omega arith), lt-leb n m g)

  pub said_long : (n ≡ 0 → ⊥) → n ≤ m → 4294967295 < length c → refused 15 ≡ sample_said a y c z o k m chunks n
  unfolding sample_said
  said_long h g l = rw (lt-ltb 0 n (omega arith), le-leb n m g, le-ltb (length c) 4294967296 (omega arith))

  pub said-in : (n ≡ 0 → ⊥) → n ≤ m → length c ≤ 4294967295 → sample_said a y c z o k m chunks n ≡ said_in a y c z o k chunks (n - 1)
  unfolding sample_said
  said-in h g l = rw (lt-ltb 0 n (omega arith), le-leb n m g, lt-ltb (length c) 4294967296 (omega arith))

  -- the only refusal is 15
  pub said_15 : (r : Refusal) → sample_said a y c z o k m chunks n ≡ Err r → r ≡ Outside
  unfolding sample_said said_in
  said_15 r e = go (is_asked c m n) (is_low _ (holder (per_chunk c chunks) (n - 1)) chunks _) (sample_in a y c z o k chunks (n - 1)) e
    where
      go : (b d : Bool) (x : Sample) → cond b (cond d (Ok x) (refused 15)) (refused 15) ≡ Err r → r ≡ Outside
      go true true x q = let w : ◌≡◌ {A = ℕ} 0 1 = cc in absurd (omega arith)
      go true false x q = cc
      go false d x q = cc

  -- a number in 1 to m is answered, and low numbers
  pub said_few : (x : Sample) → sample_said a y c z o k m chunks n ≡ Ok x → (0 < n) × (n ≤ m) × (x.decode < 2 ^ 32) × (x.chunk ≤ chunks) × (x.offset < 2 ^ 63)
  unfolding sample_said said_in sample_in
  said_few x e = go (is_asked c m n) refl (is_low _ (holder (per_chunk c chunks) (n - 1)) chunks _) refl e
    where
      go : (b : Bool) → is_asked c m n ≡ b → (d : Bool) → is_low (sample_in a y c z o k chunks (n - 1)).decode (holder (per_chunk c chunks) (n - 1)) chunks (sample_in a y c z o k chunks (n - 1)).offset ≡ d
          → cond b (cond d (Ok (sample_in a y c z o k chunks (n - 1))) (refused 15)) (refused 15) ≡ Ok x
          → (0 < n) × (n ≤ m) × (x.decode < 2 ^ 32) × (x.chunk ≤ chunks) × (x.offset < 2 ^ 63)
      go true f true g q =
          let v : sample_in a y c z o k chunks (n - 1) ≡ x = cc in
          let t = and_both (ltb 0 n) _ f in
          let l = low_known _ _ _ _ g in
          rw (← v) (ltb-true _ _ t.0, leb-true _ _ (and_both (leb n m) _ t.1).0, l.0, omega (arith, l.1), l.2)
      go true f false g q = let w : ◌≡◌ {A = ℕ} 0 1 = cc in absurd (omega arith)
      go false f d g q = let w : ◌≡◌ {A = ℕ} 0 1 = cc in absurd (omega arith)

-- ---- by the tables of the track that is asked

unsaturated : (n : ℕ) → n < 2 ^ 63 → min n 18446744073709551615 ≡ n
unsaturated n h = omega arith

-- they say what the track says
in_track_is : (t : List ℕ) (i : ℕ) → i < samples_of t → (sample_of (track_of t) i).offset < 2 ^ 63
    → sample_in (table_of stts t) (table_of ctts t) (table_of stsc t) (table_of stsz t) (offset_table t) (table_of stss t) (chunks_of t) i ≡ sample_of (track_of t) i
unfolding sample_in sample_of track_of
in_track_is t i h low =
    rw (each_at (λ k. composition_offset (table_of ctts t) k) (samples_of t) i (pos 0) h, each_at (λ k. is_sync (table_of stss t) (suc k)) (samples_of t) i false h, unsaturated _ low)

abbrev pub said_of : List ℕ → ℕ → Result Sample Refusal
said_of t n = sample_said (table_of stts t) (table_of ctts t) (table_of stsc t) (table_of stsz t) (offset_table t) (table_of stss t) (samples_of t) (chunks_of t) n

module _ (s : List ℕ) (w : Source) (id n : ℕ) (e : ask_refusal s w id ≡ 0) where
  -- a number outside 1 to N
  said_outside : (ltb 0 n && leb n (samples_of (track_asked s id))) ≡ false → refused 15 ≡ said_of (track_asked s id) n → Samples s w id n (said_of (track_asked s id) n)
  unfolding sample_refusal sample_numbers or_else
  said_outside q d =
      rw (← d) (refused_sample s w id n Outside (rw (e, q)))

  -- one in 1 to N
  said_within : (n ≡ 0 → ⊥) → n ≤ samples_of (track_asked s id) → said_of (track_asked s id) n ≡ Ok (sample_of (track_of (track_asked s id)) (n - 1))
  unfolding said_in total_in sample_in is_low
  said_within z h =
      let t = track_asked s id in
      let a = asked s w id e in
      let i : n - 1 < samples_of t = omega arith in
      let l = offset_low s t w id (ask_refusal s w id) refl e refl (n - 1) i in
      let f = table_fits stsc t _ refl (omega (arith, a.short, a.file.shape.short)) in
      let x = in_track_is t (n - 1) i l in
      let d : (sample_in (table_of stts t) (table_of ctts t) (table_of stsc t) (table_of stsz t) (offset_table t) (table_of stss t) (chunks_of t) (n - 1)).decode < 4294967296 =
      omega (arith, before_le (per_sample (table_of stts t)) (n - 1), a.track.total_fits)
      in
      let o : (sample_in (table_of stts t) (table_of ctts t) (table_of stsc t) (table_of stsz t) (offset_table t) (table_of stss t) (chunks_of t) (n - 1)).offset < 9223372036854775808 =
      omega (arith, ap (λ (v : Sample). v.offset) x, l)
      in
      said-in (table_of stts t) (table_of ctts t) (table_of stsc t) (table_of stsz t) (offset_table t) (table_of stss t) (samples_of t) (chunks_of t) n z h (omega arith)
      ∙ rw (lt-ltb _ 4294967296 d, lt-ltb _ _ (chunk_known t (n - 1) a.track.agree i), lt-ltb _ 9223372036854775808 o) (ap Ok x)

  -- the answer of the question
  pub said_samples : Samples s w id n (said_of (track_asked s id) n)
  unfolding sample_refusal sample_numbers or_else
  said_samples =
      let t = track_asked s id in
      elim (ℕ_discrete n 0) [
        | yes z ↦ said_outside (rw z) (said_zero _ _ _ _ _ _ _ _ n z)
        | no z ↦ elim (dec_lt (samples_of t) n) [
          | yes h ↦ said_outside (rw (lt-ltb 0 n (omega arith), lt-leb n (samples_of t) h)) (said_past _ _ _ _ _ _ _ _ n z h)
          | no h ↦
              let g : n ≤ samples_of t = omega arith in
              gives_answer sample_numbers sample_zeros (λ i. refl) (sample_asked s id n) (sample_refusal s w id n) (said_of t n) (rw (e, lt-ltb 0 n (omega arith), le-leb n (samples_of t) g)) (said_within z g)
        ]
      ]

-- the same, from what the code has
module _ (s t : List ℕ) (w : Source) (id n r : ℕ) (e : r ≡ ask_refusal s w id) (z : r ≡ 0) (d : t ≡ track_asked s id) where
  pub said_asked : (a y c x o k : List ℕ) (samples chunks : ℕ) → a ≡ table_of stts t → y ≡ table_of ctts t → c ≡ table_of stsc t → x ≡ table_of stsz t → o ≡ offset_table t → k ≡ table_of stss t
      → samples ≡ u32_at x 16 → chunks ≡ u32_at o 12 → (v : Result Sample Refusal) → v ≡ sample_said a y c x o k samples chunks n → Samples s w id n v
  said_asked a y c x o k samples chunks ea ey ec ex eo ek es eh v q = rw (q, es, eh, ea, ey, ec, ex, eo, ek, d) (said_samples s w id n (sym e ∙ z))
