-- The answers by a handle and an index, way by way.
-- Assumes nothing.
use Rattle.std.specs.Prelude.{Option, Some, None}
use Prim.Native.Nat.{ℕ, suc, ◌+◌, ◌-◌, ◌*◌, ◌≤◌, ◌<◌, ◌^◌, min}
use mathlib.Core.Path.{◌≡◌, refl, sym, ap, ◌∙◌}
use mathlib.Core.Bool.{Bool, true, false, cond}
use mathlib.Core.List.{List}
use native.Mathlib.Omega.{arith}
use borrow.Author.Tests.{le-ltb}
use lib.Dec.{ltb}
use lib.ListN.{length, get_or, drop}
use lib.IntN.{ℤ}
use Rattle.bigendian.specs.BigEndian.{u32_at}
use Rattle.runs.specs.Runs.{runs_of, per_sample, timing_of, looked_up}
use Rattle.runs.specs.declared.Timing.{Timing}
use Rattle.words.specs.Words.{sizes, chunk_offsets, syncs_agree, is_sync}
use Rattle.sync_search.specs.Search.{Searched}
use Rattle.chunks.specs.Computed.{located_offset}
use Rattle.chunks.specs.declared.Located.{Located}
use Rattle.edits.specs.declared.MediaTime.{MediaTime}
use Rattle.places.specs.Places.{part_in}
use Rattle.questions.specs.Said.{is_low, found_as, said_in, sample_said}
use Rattle.questions.specs.declared.samples.Sample.{Sample}
use Rattle.std.specs.Prelude.{Result, Ok, Err}
use Rattle.refusals.specs.declared.Refusal.{Refusal}
use Rattle.refusals.specs.declared.Refusal.TheVariants.{Outside, NoRoom}
use Rattle.questions.proofs.Said.{low_known, found_said, said_zero, said_past, said-in}
use Rattle.time_questions.specs.Said.{number_of, number_said}
use Rattle.time_questions.specs.declared.Numbered.{Numbered}
use Rattle.opened.specs.declared.Opened.{Opened}
use Rattle.opened.proofs.Answers.{by_sample, by_number}
use Rattle.checkpoints.specs.Points.{CountsAt, TotalsAt}
use Rattle.run_lookups.specs.From.{TimingFrom, OffsetFrom, NumberFrom}
use Rattle.chunk_lookups.specs.From.{LocatedFrom}
use Rattle.sample_index.specs.Index.{checkpoints_of, index_length, Indexes, SampleByIndex, NumberByIndex}
use Rattle.sample_index.specs.Looked.{Points, LookedUp}
use Rattle.sample_index.proofs.Filled.{index_long}
use Rattle.sample_index.proofs.Accepted.{accepted_points}
use Rattle.runs.specs.declared.Hit.{Hit}

-- ---- what was looked up, whatever it is

module _ (r : Timing) (shift : ℤ) (p : Located) (sync : Bool) (z o : List ℕ) (n i : ℕ) where
  found_15 : (k : Refusal) → found_as r shift p sync z o n i ≡ Err k → k ≡ Outside
  unfolding found_as
  found_15 k e = go (is_low r.start p.chunk n (min (located_offset (chunk_offsets o) (sizes z) p i) 18446744073709551615)) _ e
    where
      go : (b : Bool) (x : Sample) → cond b (Ok x) (Err Outside) ≡ Err k → k ≡ Outside
      go true x q = let w : ◌≡◌ {A = ℕ} 0 1 = cc in absurd (omega arith)
      go false x q = cc

  found_low : (x : Sample) → found_as r shift p sync z o n i ≡ Ok x → (x.decode < 2 ^ 32) × (x.chunk ≤ n) × (x.offset < 2 ^ 63)
  unfolding found_as
  found_low x e = go (is_low r.start p.chunk n (min (located_offset (chunk_offsets o) (sizes z) p i) 18446744073709551615)) refl _ refl refl refl e
    where
      go : (b : Bool) → is_low r.start p.chunk n (min (located_offset (chunk_offsets o) (sizes z) p i) 18446744073709551615) ≡ b → (y : Sample) → y.decode ≡ r.start → y.chunk ≡ p.chunk + 1
          → y.offset ≡ min (located_offset (chunk_offsets o) (sizes z) p i) 18446744073709551615 → cond b (Ok y) (Err Outside) ≡ Ok x
          → (x.decode < 2 ^ 32) × (x.chunk ≤ n) × (x.offset < 2 ^ 63)
      go true g y a b c q =
          let v : y ≡ x = cc in
          let l = low_known _ _ _ _ g in
          rw (← v) (omega (arith, l.0, a), omega (arith, l.1, b), omega (arith, l.2, c))
      go false g y a b c q = let w : ◌≡◌ {A = ℕ} 0 1 = cc in absurd (omega arith)

  found_size : (x : Sample) → found_as r shift p sync z o n i ≡ Ok x → x.size ≡ get_or (sizes z) i 0
  unfolding found_as
  found_size x e = go (is_low r.start p.chunk n (min (located_offset (chunk_offsets o) (sizes z) p i) 18446744073709551615)) _ refl e
    where
      go : (b : Bool) (y : Sample) → y.size ≡ get_or (sizes z) i 0 → cond b (Ok y) (Err Outside) ≡ Ok x → x.size ≡ get_or (sizes z) i 0
      go true y a q = let v : y ≡ x = cc in rw (← v) a
      go false y a q = let w : ◌≡◌ {A = ℕ} 0 1 = cc in absurd (omega arith)

module _ (s : List ℕ) (h : Opened) (index : List ℕ) (count k : ℕ) where
  pub looked_long : 4294967295 < length (part_in s h.tables.stsc) → LookedUp s h index count k (Err Outside)
  looked_long l = record {
    right = λ p. absurd (omega (arith, p.short));
    elsewhere = λ i e. cc;
    low = λ x e. let w : ◌≡◌ {A = ℕ} 0 1 = cc in absurd (omega arith);
    size = λ x e. let w : ◌≡◌ {A = ℕ} 0 1 = cc in absurd (omega arith);
  }

  pub looked_found : (r : Timing) (shift : ℤ) (p : Located) (sync : Bool) (v : Result Sample Refusal)
      → TimingFrom (part_in s h.tables.stts) index count k r
      → OffsetFrom (part_in s h.tables.ctts) (drop (2 * count) index) count k shift
      → LocatedFrom (part_in s h.tables.stsc) (drop (4 * count) index) count h.chunks k p
      → Searched (part_in s h.tables.stss) (k + 1) sync
      → v ≡ found_as r shift p sync (part_in s h.tables.stsz) (part_in s h.tables.offsets) h.chunks k → LookedUp s h index count k v
  looked_found r shift p sync v ft fs fp fy e = record {
    right = λ a.
        e
        ∙ found_said (part_in s h.tables.stts) (part_in s h.tables.ctts) (part_in s h.tables.stsc) (part_in s h.tables.stsz) (part_in s h.tables.offsets) (part_in s h.tables.stss) h.chunks k r shift p sync
        (ft.right a.counts a.totals a.total_low) (fs.right a.shifts) (fp.right a.chunks a.dealt a.chunks_low) (fy.right a.samples a.syncs);
    elsewhere = λ i q. found_15 r shift p sync (part_in s h.tables.stsz) (part_in s h.tables.offsets) h.chunks k i (sym e ∙ q);
    low = λ x q. found_low r shift p sync (part_in s h.tables.stsz) (part_in s h.tables.offsets) h.chunks k x (sym e ∙ q);
    size = λ x q. found_size r shift p sync (part_in s h.tables.stsz) (part_in s h.tables.offsets) h.chunks k x (sym e ∙ q);
  }

-- ---- sample n

module _ (s : List ℕ) (h : Opened) (index : List ℕ) (n : ℕ) where
  abbrev said : Result Sample Refusal
  said = sample_said (part_in s h.tables.stts) (part_in s h.tables.ctts) (part_in s h.tables.stsc) (part_in s h.tables.stsz) (part_in s h.tables.offsets) (part_in s h.tables.stss) h.samples h.chunks n

  pub sample_short : length index < index_length h → SampleByIndex s h index n (Err NoRoom)
  sample_short l = record {
    right = λ w id o e. absurd (omega (arith, index_long s h index e));
    short = λ q. refl;
    elsewhere = λ q k e. absurd (omega arith);
    few = λ x e. let w : ◌≡◌ {A = ℕ} 0 1 = cc in absurd (omega arith);
    low = λ x e. let w : ◌≡◌ {A = ℕ} 0 1 = cc in absurd (omega arith);
    size = λ x e. let w : ◌≡◌ {A = ℕ} 0 1 = cc in absurd (omega arith);
  }

  sample_15 : index_length h ≤ length index → Err Outside ≡ said → SampleByIndex s h index n (Err Outside)
  sample_15 l q = record {
    right = λ w id o e. (by_sample s h n _ _ _ _ _ _ (Err Outside) refl refl refl refl refl refl q).right w id o;
    short = λ m. absurd (omega arith);
    elsewhere = λ m k e. cc;
    few = λ x e. let w : ◌≡◌ {A = ℕ} 0 1 = cc in absurd (omega arith);
    low = λ x e. let w : ◌≡◌ {A = ℕ} 0 1 = cc in absurd (omega arith);
    size = λ x e. let w : ◌≡◌ {A = ℕ} 0 1 = cc in absurd (omega arith);
  }

  pub sample_zero : index_length h ≤ length index → n ≡ 0 → SampleByIndex s h index n (Err Outside)
  sample_zero l z = sample_15 l (said_zero _ _ _ _ _ _ _ _ n z)

  pub sample_past : index_length h ≤ length index → (n ≡ 0 → ⊥) → h.samples < n → SampleByIndex s h index n (Err Outside)
  sample_past l z m = sample_15 l (said_past _ _ _ _ _ _ _ _ n z m)

  pub sample_looked : index_length h ≤ length index → (n ≡ 0 → ⊥) → n ≤ h.samples → h.samples < 2 ^ 32 → h.chunks < 2 ^ 32 → (c : ℕ) → c ≡ checkpoints_of h.samples → (r : Result Sample Refusal)
      → LookedUp s h index c (n - 1) r → SampleByIndex s h index n r
  sample_looked l z m few low c ec r a = record {
    right = λ w id o e.
        let p = accepted_points s w id h index o e few low c ec in
        (by_sample s h n _ _ _ _ _ _ r refl refl refl refl refl refl (a.right p ∙ sym (said-in _ _ _ _ _ _ _ _ n z m (omega (arith, p.short))))).right w id o;
    short = λ q. absurd (omega arith);
    elsewhere = λ q k e. a.elsewhere k e;
    few = λ x e. (omega arith, m);
    low = a.low;
    size = a.size;
  }

-- ---- the sample at a time

number_zero : (s : List ℕ) (t : MediaTime) → Err Outside ≡ number_said s 0 t
unfolding number_said number_of
number_zero s t = go (ltb (length s) 4294967296) (looked_up (runs_of s) t.0)
  where
    go : (b : Bool) (f : Option Hit) → Err Outside ≡ cond b (number_of 0 f) (Err Outside)
    go true (Some i) = rw (le-ltb i.index 0 (omega arith))
    go true None = refl
    go false f = refl

module _ (s : List ℕ) (h : Opened) (index : List ℕ) (t : MediaTime) where
  pub number_short : length index < index_length h → NumberByIndex s h index t (Err NoRoom)
  number_short l = record {
    right = λ w id o e. absurd (omega (arith, index_long s h index e));
    short = λ q. refl;
    elsewhere = λ q k e. absurd (omega arith);
    few = λ n e. let w : ◌≡◌ {A = ℕ} 0 1 = cc in absurd (omega arith);
  }

  pub number_none : index_length h ≤ length index → h.samples ≡ 0 → NumberByIndex s h index t (Err Outside)
  number_none l z = record {
    right = λ w id o e. (by_number s h t _ (Err Outside) refl (number_zero (part_in s h.tables.stts) t ∙ ap (λ (m : ℕ). number_said (part_in s h.tables.stts) m t) (sym z))).right w id o;
    short = λ q. absurd (omega arith);
    elsewhere = λ q k e. cc;
    few = λ n e. let w : ◌≡◌ {A = ℕ} 0 1 = cc in absurd (omega arith);
  }

  pub number_looked : index_length h ≤ length index → h.samples < 2 ^ 32 → h.chunks < 2 ^ 32 → (c : ℕ) → c ≡ checkpoints_of h.samples → (x : List ℕ) → x ≡ part_in s h.tables.stts → (r : Result Numbered Refusal)
      → NumberFrom x index c h.samples t r → NumberByIndex s h index t r
  number_looked l few low c ec x ex r a =
      let b : NumberFrom (part_in s h.tables.stts) index c h.samples t r = rw ex at a in
      record {
        right = λ w id o e.
            let p = accepted_points s w id h index o e few low c ec in
            (by_number s h t _ r refl (b.right p.counts p.totals)).right w id o;
        short = λ q. absurd (omega arith);
        elsewhere = λ q k e. b.elsewhere k e;
        few = b.few;
      }
