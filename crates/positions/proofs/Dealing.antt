-- The place in the chunks: what it is to begin the next chunk, to pass a sample, and to seek one.
-- Assumes nothing.
use Prim.Native.Nat.{ℕ, suc, ◌+◌, ◌-◌, ◌≤◌, ◌<◌, ◌^◌, min}
use mathlib.Core.Path.{◌≡◌, refl, sym, ap, ◌∙◌}
use mathlib.Core.List.{List, []}
use Rattle.std.specs.Prelude.{Some, None}
use native.Mathlib.Omega.{arith}
use native.Mathlib.Decide.{ℕ_discrete, dec_lt}
use mathlib.Core.Bool.{Bool, true, false, ◌&&◌}
use borrow.Author.Tests.{eq-eqb, ne_eqb, lt-leb, le-leb, lt-ltb, le-ltb}
use lib.Dec.{ltb}
use lib.ListN.{length, get_or, length-drop}
use Rattle.lists.specs.Lists.{sum, before, holder, Holds}
use Rattle.lists.proofs.Places.{before_suc, before_all, holder_holds, holder_only, holds_below}
use Rattle.words.specs.Words.{sizes, chunk_offsets}
use Rattle.chunks.specs.Chunks.{per_chunk, description_ids, offset_of}
use Rattle.chunks.specs.Computed.{located_offset}
use Rattle.chunks.specs.Cursors.{ahead, Valid, readied, past, sought}
use Rattle.chunks.specs.declared.ChunkCursor.{ChunkCursor}
use Rattle.chunks.specs.declared.Located.{Located}
use Rattle.chunks.specs.declared.Sought.{Sought}
use Rattle.chunks.proofs.Cursors.{ready_same, ready_valid, past_valid, no_samples, stands_at}
use Rattle.chunks.proofs.Dealt.{first_chunk, first_offset, next_offset}
use Rattle.chunks.proofs.Finding.{Finds, finds, located_some, offset_located}
use Rattle.positions.specs.Dealing.{DealtAt, begun, readied_dealt, may_deal, ahead_of, past_dealt, sought_dealt}
use Rattle.positions.specs.declared.dealt.Dealt.{Dealt}

-- ---- what the code makes

and_false : (b : Bool) → (b && false) ≡ false
and_false true = refl
and_false false = refl

module _ (stsc o : List ℕ) (chunks : ℕ) (d : Dealt) where
  pub begun_none : chunks ≤ d.chunk → d ≡ begun stsc o chunks d
  begun_none h = rw (le-leb chunks d.chunk h)

  pub begun_some : d.chunk < chunks → (c p : ChunkCursor) (off : ℕ) → c ≡ readied stsc chunks d.cursor → p ≡ past 1 c → off ≡ get_or (chunk_offsets o) d.chunk 0
      → ◌≡◌ {A = Dealt} (record { cursor = p; chunk = d.chunk + 1; rest = c.per; offset = off }) (begun stsc o chunks d)
  begun_some h c p off e f g = rw (lt-leb chunks d.chunk h) (λ i. record { cursor = (f ∙ ap (past 1) e) i; chunk = d.chunk + 1; rest = (e i).per; offset = g i })

  pub begun_offset : d.chunk < chunks → (begun stsc o chunks d).offset ≡ get_or (chunk_offsets o) d.chunk 0
  begun_offset h = rw (lt-leb chunks d.chunk h)

  pub begun_rest : d.chunk < chunks → (begun stsc o chunks d).rest ≡ (readied stsc chunks d.cursor).per
  begun_rest h = rw (lt-leb chunks d.chunk h)

  pub ready_here : (d.rest ≡ 0 → ⊥) → d ≡ readied_dealt stsc o chunks d
  unfolding readied_dealt
  ready_here z = rw (ne_eqb d.rest 0 z)

  pub ready_next : d.rest ≡ 0 → begun stsc o chunks d ≡ readied_dealt stsc o chunks d
  unfolding readied_dealt
  ready_next z = rw (eq-eqb d.rest 0 z)

-- whether a sample lies ahead

module _ (d : Dealt) where
  pub none_ahead : d.rest ≡ 0 → None ≡ ahead_of d
  none_ahead z = rw (le-ltb 0 d.rest (omega arith))

  pub too_high : 9223372036854775807 < d.offset → None ≡ ahead_of d
  too_high h = let e : may_deal d ≡ false = rw (le-ltb d.offset 9223372036854775808 (omega arith)) (and_false (ltb 0 d.rest)) in rw e

  pub some_ahead : (d.rest ≡ 0 → ⊥) → d.offset ≤ 9223372036854775807 → Some d ≡ ahead_of d
  some_ahead z h = rw (lt-ltb 0 d.rest (omega arith), lt-ltb d.offset 9223372036854775808 (omega arith))

-- ---- the place of a sample

module _ (stsc o zs : List ℕ) (chunks k : ℕ) (d : Dealt) (a : DealtAt stsc chunks (chunk_offsets o) zs k d) (h : k < sum (per_chunk stsc chunks)) where
  -- a chunk is still to come where none of the samples of those begun is
  module _ (full : length (per_chunk stsc chunks) ≡ chunks) (some : (c : ℕ) → c < chunks → 0 < get_or (per_chunk stsc chunks) c 0) (z : d.rest ≡ 0) where
    starts : before (per_chunk stsc chunks) d.chunk ≡ k
    starts = omega (arith, a.begun)

    to_come : d.chunk < chunks
    to_come = elim (dec_lt d.chunk chunks) [
      | yes l ↦ l
      | no l ↦ absurd (omega (arith, before_all (per_chunk stsc chunks) d.chunk (omega (arith, full)), starts))
    ]

    c : ChunkCursor
    c = readied stsc chunks d.cursor

    valid : Valid stsc chunks d.chunk (readied stsc chunks d.cursor)
    valid = ready_valid stsc chunks a.valid

    remains : 0 < (readied stsc chunks d.cursor).remaining
    remains = elim (ℕ_discrete (readied stsc chunks d.cursor).remaining 0) [
      | yes l ↦
          let e : ahead stsc chunks (readied stsc chunks d.cursor) ≡ [] = no_samples chunks (ready_same stsc chunks d.cursor).stands l in
          absurd (omega (arith, ap length (sym valid.samples ∙ e), length-drop d.chunk (per_chunk stsc chunks), full, to_come))
      | no l ↦ omega arith
    ]

    begins : DealtAt stsc chunks (chunk_offsets o) zs k (begun stsc o chunks d)
    begins =
        let s = stands_at stsc chunks (readied stsc chunks d.cursor) remains valid in
        let e : d.chunk + 1 ≡ suc d.chunk = omega arith in
        let q = some d.chunk to_come in
        let f : holder (per_chunk stsc chunks) k ≡ d.chunk = ap (holder (per_chunk stsc chunks)) (sym starts) ∙ first_chunk (per_chunk stsc chunks) d.chunk q in
        rw (lt-leb chunks d.chunk to_come) (record {
          valid = past_valid stsc chunks (readied stsc chunks d.cursor) 1 remains valid;
          begun = ap (λ (n : ℕ). k + n) (sym s.0) ∙ omega (arith, before_suc (per_chunk stsc chunks) d.chunk, starts, ap (before (per_chunk stsc chunks)) e);
          in_chunk = λ l. omega (arith, f);
          offset = λ l. sym (ap (λ (i : ℕ). offset_of (per_chunk stsc chunks) (chunk_offsets o) zs i) (sym starts) ∙ first_offset (per_chunk stsc chunks) d.chunk q (chunk_offsets o) zs);
          description = λ l. sym (ap (λ (i : ℕ). get_or (description_ids stsc chunks) i 0) f ∙ s.1);
        })

    begins_some : 0 < (begun stsc o chunks d).rest
    begins_some =
        let s = stands_at stsc chunks (readied stsc chunks d.cursor) remains valid in
        rw (lt-leb chunks d.chunk to_come) (omega (arith, s.0, some d.chunk to_come))

  pub dealt_readied : length (per_chunk stsc chunks) ≡ chunks → ((c : ℕ) → c < chunks → 0 < get_or (per_chunk stsc chunks) c 0)
      → DealtAt stsc chunks (chunk_offsets o) zs k (readied_dealt stsc o chunks d) × (0 < (readied_dealt stsc o chunks d).rest)
  dealt_readied full some = elim (ℕ_discrete d.rest 0) [
    | yes z ↦ rw (← ready_next stsc o chunks d z) (begins full some z, begins_some full some z)
    | no z ↦ rw (← ready_here stsc o chunks d z) (a, omega arith)
  ]

  -- past the sample
  pub dealt_moves : 0 < d.rest → DealtAt stsc chunks (chunk_offsets o) zs (suc k) (past_dealt (get_or zs k 0) d)
  dealt_moves g =
      let ps = per_chunk stsc chunks in
      let n = a.in_chunk g in
      let same : 0 < d.rest - 1 → holder ps (suc k) ≡ holder ps k =
      λ l. sym (holder_only ps (suc k) (holder ps k) (record {
        from = omega (arith, (holder_holds ps k h).from);
        to = omega (arith, before_suc ps (holder ps k), a.begun, ap (before ps) n);
      })) in
      record {
        valid = a.valid;
        begun = omega (arith, a.begun);
        in_chunk = λ l. omega (arith, n, same l);
        offset = λ l. ap (λ (i : ℕ). i + get_or zs k 0) (a.offset g) ∙ sym (next_offset ps (chunk_offsets o) zs k h (same l));
        description = λ l. a.description g ∙ ap (λ (i : ℕ). get_or (description_ids stsc chunks) i 0) (sym (same l));
      }

-- ---- a sample sought

module _ (stsc o zs : List ℕ) (chunks k : ℕ) (h : k < sum (per_chunk stsc chunks)) (r : Sought) (e : r ≡ sought stsc chunks k) where
  f : Finds stsc chunks k r
  f = finds e

  sought_in : Holds (per_chunk stsc chunks) k r.chunk
  sought_in = rw f.place (holder_holds (per_chunk stsc chunks) k h)

  sought_low : length (per_chunk stsc chunks) ≤ chunks → r.chunk < chunks
  sought_low l = omega (arith, (holds_below (per_chunk stsc chunks) k r.chunk sought_in).1)

  sought_remains : 0 < r.cursor.remaining
  sought_remains = elim (ℕ_discrete r.cursor.remaining 0) [
    | yes l ↦
        let d : ahead stsc chunks r.cursor ≡ [] = no_samples chunks f.stands l in
        absurd (omega (arith, ap length (sym f.valid.samples ∙ d), length-drop r.chunk (per_chunk stsc chunks), (holds_below (per_chunk stsc chunks) k r.chunk sought_in).1))
    | no l ↦ omega arith
  ]

  within_is : r.within ≡ k - before (per_chunk stsc chunks) r.chunk
  within_is = f.start ∙ ap (λ (i : ℕ). k - before (per_chunk stsc chunks) i) (sym f.place)

  sought_at : offset_of (per_chunk stsc chunks) (chunk_offsets o) zs k < 2 ^ 63 → (c : ChunkCursor) (off : ℕ) → c ≡ past 1 r.cursor
      → off ≡ min (located_offset (chunk_offsets o) zs (record { chunk = r.chunk; within = r.within; description = r.cursor.description }) k) 18446744073709551615
      → DealtAt stsc chunks (chunk_offsets o) zs k (record { cursor = c; chunk = r.chunk + 1; rest = r.cursor.per - r.within; offset = off })
  sought_at l c off a b =
      let ps = per_chunk stsc chunks in
      let s = stands_at stsc chunks r.cursor sought_remains f.valid in
      let g = located_some r f (λ z. omega (arith, sought_remains)) in
      let w : located_offset (chunk_offsets o) zs (record { chunk = r.chunk; within = r.within; description = r.cursor.description }) k ≡ offset_of ps (chunk_offsets o) zs k =
      ap (λ (p : Located). located_offset (chunk_offsets o) zs p k) g ∙ offset_located ps (description_ids stsc chunks) (chunk_offsets o) zs k in
      let q : r.chunk + 1 ≡ suc r.chunk = omega arith in
      rw a (record {
        valid = past_valid stsc chunks r.cursor 1 sought_remains f.valid;
        begun = omega (arith, s.0, within_is, sought_in.from, sought_in.to, before_suc ps r.chunk, ap (before ps) q);
        in_chunk = λ z. omega (arith, f.place);
        offset = λ z. b ∙ ap (λ (n : ℕ). min n 18446744073709551615) w ∙ omega arith;
        description = λ z. sym s.1 ∙ ap (λ (i : ℕ). get_or (description_ids stsc chunks) i 0) f.place;
      })

module _ (stsc z o : List ℕ) (chunks k : ℕ) where
  -- from what the code has
  pub seek_made : (r : Sought) (c : ChunkCursor) (chunk rest off : ℕ) → r ≡ sought stsc chunks k → c ≡ past 1 r.cursor → chunk ≡ min (r.chunk + 1) chunks → rest ≡ r.cursor.per - r.within
      → off ≡ min (located_offset (chunk_offsets o) (sizes z) (record { chunk = r.chunk; within = r.within; description = r.cursor.description }) k) 18446744073709551615
      → ◌≡◌ {A = Dealt} (record { cursor = c; chunk = chunk; rest = rest; offset = off }) (sought_dealt stsc z o chunks k)
  unfolding sought_dealt
  seek_made r c chunk rest off e a b d g = rw (a, b, d, g, e)

  -- where it is dealt to one of the chunks
  pub dealt_sought : k < sum (per_chunk stsc chunks) → length (per_chunk stsc chunks) ≤ chunks → offset_of (per_chunk stsc chunks) (chunk_offsets o) (sizes z) k < 2 ^ 63
      → DealtAt stsc chunks (chunk_offsets o) (sizes z) k (sought_dealt stsc z o chunks k)
  unfolding sought_dealt
  dealt_sought h l low =
      let r = sought stsc chunks k in
      let m : min (r.chunk + 1) chunks ≡ r.chunk + 1 = omega (arith, sought_low stsc o (sizes z) chunks k h r refl l) in
      rw m (sought_at stsc o (sizes z) chunks k h r refl low _ _ refl refl)
