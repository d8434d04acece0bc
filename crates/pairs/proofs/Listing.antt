-- Whole chunks whose sizes are listed: the pair of each is that of its offset and the next sizes, and leads to the place after it.
-- Assumes nothing.
use Prim.Native.Nat.{ℕ, ◌+◌, ◌*◌, ◌-◌, ◌/◌, ◌^◌, ◌≤◌, ◌<◌}
use mathlib.Core.Path.{◌≡◌, refl, sym, ap, ◌∙◌}
use mathlib.Core.Bool.{true, false, ◌||◌}
use mathlib.Core.List.{List, [], ◌∷◌}
use native.Mathlib.Decide.{ℕ_discrete}
use native.Mathlib.Omega.{arith}
use borrow.Author.Tests.{ne_eqb, eqb-false, lt-leb, leb-true}
use lib.ListN.{length, get_or, take, drop, length-drop}
use lib.Seq.{sets, drop-drop, take-take, take_all, length-take-le}
use lib.Dec.{eqb, leb}
use Rattle.bigendian.specs.BigEndian.{u32_at}
use Rattle.lists.specs.Lists.{sum}
use Rattle.lists.proofs.Cuts.{drop_take}
use Rattle.lists.proofs.Booleans.{cond_unless}
use Rattle.words.specs.Words.{words_in, sizes, chunk_offsets}
use Rattle.words.proofs.Turns.{words_drop, words_take, sizes_listed}
use Rattle.chunks.specs.Cursors.{ahead, readied, past}
use Rattle.chunks.specs.declared.ChunkCursor.{ChunkCursor}
use Rattle.pairs.specs.Walks.{lengths_of, pairs_ahead, At, place_after}
use Rattle.pairs.specs.Moves.{Filling, ListedTo, is_whole, listed_pair, place_by, Moving, Moves}
use Rattle.pairs.specs.declared.Pair.{Pair}
use Rattle.pairs.specs.declared.ChunkPosition.{ChunkPosition}
use Rattle.pairs.specs.declared.listed.Moved.{Moved}
use Rattle.pairs.proofs.Wholes.{whole_pair}
use Rattle.pairs.proofs.Walking.{at_next, at_again, at_less}
use Rattle.pairs.proofs.Filling.{filling_start, one_fits, one_total, one_turn}

-- ---- the sizes

-- as they are cut out of the table: the first n bytes, or all
module _ (stsz : List ℕ) (j begin : ℕ) {each : ℕ} (e : each ≡ u32_at stsz 12) (o : each ≡ 0) (l : begin < j) {z : List ℕ} (f : z ≡ drop (begin * 4) (drop 20 stsz)) where
  pub listed_cut : (n : ℕ) → n ≤ length z → n ≤ (j - begin) * 4 → ListedTo stsz j begin (take n z)
  listed_cut n h k =
      let m = length-take-le n z h in
      record { listed = λ _. sym e ∙ o; cut = ap (take n) f ∙ ap (λ (x : ℕ). take x (drop (begin * 4) (drop 20 stsz))) (sym m); ends = λ _. omega (arith, m) }

  pub listed_all : length z ≤ (j - begin) * 4 → ListedTo stsz j begin z
  listed_all h = rw (take_all (length z) z (omega arith)) at (listed_cut (length z) (omega arith) h)

module _ (stsz : List ℕ) (j begin : ℕ) (z : List ℕ) (w : ListedTo stsz j begin z) (per : ℕ) (h : per * 4 ≤ length z) where
  pub listed_past : ListedTo stsz j (begin + per) (drop (per * 4) z)
  listed_past =
      let y = drop (begin * 4) (drop 20 stsz) in
      let n : per * 4 + (length z - per * 4) ≡ length z = omega arith in
      let l : length z - per * 4 ≡ length (drop (per * 4) z) = sym (length-drop (per * 4) z) in
      let k : begin * 4 + per * 4 ≡ (begin + per) * 4 = omega arith in
      record {
        listed = λ q. w.listed (λ e. q (omega (arith, l)));
        cut =
            ap (drop (per * 4)) (w.cut ∙ ap (λ (m : ℕ). take m y) (sym n))
            ∙ drop_take (per * 4) (length z - per * 4) y
            ∙ ap (λ (m : ℕ). take m (drop (per * 4) y)) l
            ∙ ap (take (length (drop (per * 4) z))) (drop-drop (per * 4) (begin * 4) (drop 20 stsz) ∙ ap (λ (m : ℕ). drop m (drop 20 stsz)) k);
        ends = λ q. omega (arith, w.ends (λ e. q (omega (arith, l))), l);
      }

  pub listed_sum : (length z ≡ 0 → ⊥) → sum (take per (drop begin (sizes stsz))) ≡ sum (words_in (take (per * 4) z))
  listed_sum q =
      let y = drop (begin * 4) (drop 20 stsz) in
      ap (λ l. sum (take per (drop begin l))) (sizes_listed stsz refl (w.listed q))
      ∙ ap (λ l. sum (take per l)) (sym (words_drop begin (drop 20 stsz)))
      ∙ ap sum (sym (words_take per y))
      ∙ ap (λ l. sum (words_in l)) (sym (take-take (per * 4) (length z) y h) ∙ ap (take (per * 4)) (sym w.cut))

pub whole_known : (c : ChunkCursor) (n : ℕ) → is_whole c n ≡ true → (c.remaining ≡ 0 → ⊥) × (n ≡ 0 → ⊥) × (c.per * 4 ≤ n)
whole_known c n e =
    let a = cond_unless (eqb c.remaining 0) _ e in
    let b = cond_unless (eqb n 0) _ a.1 in
    (eqb-false _ _ a.0, eqb-false _ _ b.0, leb-true _ _ b.1)

-- ---- a walk over them

pub record Listing (b : ℕ) (stsc stsz offsets : List ℕ) (chunks i j : ℕ) (p₀ : ChunkPosition) (room₀ : List ℕ) (at₀ : ℕ) (p : ChunkPosition) (z room : List ℕ) (at bytes : ℕ) : Type 0 where
  pub place : At stsc chunks i p
  pub from : i ≤ p.begin
  pub sizes : ListedTo stsz j p.begin z
  pub filling : Filling b (pairs_ahead stsc stsz offsets chunks i j p₀) room₀ at₀ (pairs_ahead stsc stsz offsets chunks i j p) room at bytes
  pub fewer : length (ahead stsc chunks p.cursor) ≤ length (ahead stsc chunks p₀.cursor)

pub listing_start : {b : ℕ} {stsc stsz offsets : List ℕ} {chunks i j : ℕ} {p : ChunkPosition} {at : ℕ} (room : List ℕ) {z : List ℕ} → Moving b stsc stsz offsets chunks i j p at (length room) → ListedTo stsz j p.begin z
    → Listing b stsc stsz offsets chunks i j p room at p z room at 0
listing_start room w s = record { place = w.place; from = w.from; sizes = s; filling = filling_start _ room _ w.room; fewer = omega arith }

module _ {b : ℕ} {stsc stsz offsets : List ℕ} {chunks i j : ℕ} {p₀ : ChunkPosition} {room₀ : List ℕ} {at₀ : ℕ} {p : ChunkPosition} {z room : List ℕ} {at bytes : ℕ}
    (w : Listing b stsc stsz offsets chunks i j p₀ room₀ at₀ p z room at bytes) where
  pub listing_end : Moves b stsc stsz offsets chunks i j p₀ room₀ at₀ (record { place = p; at = at; bytes = bytes }) room
  listing_end = record { place = w.place; filling = w.filling; fewer = w.fewer }

  module _ (e : is_whole p.cursor (length z) ≡ true) where
    known : (p.cursor.remaining ≡ 0 → ⊥) × (length z ≡ 0 → ⊥) × (p.cursor.per * 4 ≤ length z)
    known = whole_known p.cursor (length z) e

    pub sizes_there : p.cursor.per * 4 ≤ length z
    sizes_there = known.2

    pub is_ahead : (eqb p.cursor.remaining 0 || leb j p.begin) ≡ false
    is_ahead =
        let n : 0 < length z = let k = known.1 in omega arith in
        let l : p.begin < j = omega (arith, w.sizes.ends known.1) in
        rw (ne_eqb p.cursor.remaining 0 known.0, lt-leb j p.begin l)

    module _ {q : Pair} {cs : List ℕ} (d : q ≡ listed_pair cs z p.cursor p.chunk) (f : cs ≡ chunk_offsets offsets) where
      next : pairs_ahead stsc stsz offsets chunks i j p ≡ q ∷ pairs_ahead stsc stsz offsets chunks i j (place_after stsc chunks p)
      next =
          let t : p.begin + p.cursor.per ≤ j = omega (arith, w.sizes.ends known.1, known.2) in
          at_next stsc stsz offsets chunks i j p w.place is_ahead
          ∙ ap (λ x. x ∷ pairs_ahead stsc stsz offsets chunks i j (place_after stsc chunks p)) (
          whole_pair i j p.begin p.cursor.per (get_or (chunk_offsets offsets) p.chunk 0) (sizes stsz) w.from t
          ∙ (λ k. record { offset = get_or (sym f k) p.chunk 0; length = listed_sum stsz j p.begin z w.sizes p.cursor.per known.2 known.1 k })
          ∙ sym d)

      pub listing_fits : sum (lengths_of (pairs_ahead stsc stsz offsets chunks i j p₀)) < 2 ^ 64 → (q.offset < b) × (q.length < b) × (at + 2 ≤ length room)
      listing_fits h = one_fits w.filling q _ next h

      pub listing_total : sum (lengths_of (pairs_ahead stsc stsz offsets chunks i j p₀)) < 2 ^ 64 → bytes + q.length < 2 ^ 64
      listing_total h = one_total w.filling q _ next h

      pub listing_turn : {new : List ℕ} → new ≡ sets room at (q.offset ∷ q.length ∷ []) → {y : List ℕ} → y ≡ drop (p.cursor.per * 4) z → {r : ChunkPosition} → r ≡ place_after stsc chunks p
          → Listing b stsc stsz offsets chunks i j p₀ room₀ at₀ r y new (at + 2) (bytes + q.length)
      listing_turn g k o = rw (o, k) (record {
        place = at_again stsc stsz offsets chunks i j p w.place is_ahead;
        from = omega (arith, w.from);
        sizes = listed_past stsz j p.begin z w.sizes p.cursor.per known.2;
        filling = one_turn w.filling q _ next g;
        fewer = omega (arith, w.fewer, at_less stsc stsz offsets chunks i j p w.place is_ahead);
      })

    pub listing_less : {r : ChunkPosition} → r ≡ place_after stsc chunks p → length (ahead stsc chunks r.cursor) < length (ahead stsc chunks p.cursor)
    listing_less o = rw o (at_less stsc stsz offsets chunks i j p w.place is_ahead)

-- ---- the same walk by what moves in it: the cursor, how many chunks were passed, and the sizes that lie ahead, of all that there were

same_walk : {b : ℕ} {stsc stsz offsets : List ℕ} {chunks i j : ℕ} {p₀ : ChunkPosition} {room₀ : List ℕ} {at₀ : ℕ} {p r : ChunkPosition} {z room : List ℕ} {at at' bytes : ℕ} → r ≡ p → at' ≡ at
    → Listing b stsc stsz offsets chunks i j p₀ room₀ at₀ p z room at bytes → Listing b stsc stsz offsets chunks i j p₀ room₀ at₀ r z room at' bytes
same_walk e f w = rw (e, f) w

pub record Passing (b : ℕ) (stsc stsz offsets : List ℕ) (chunks i j : ℕ) (p : ChunkPosition) (room₀ : List ℕ) (at₀ : ℕ) (all : List ℕ) (c : ChunkCursor) (z room : List ℕ) (n bytes : ℕ) : Type 0 where
  pub walk : Listing b stsc stsz offsets chunks i j p room₀ at₀ (place_by p c n (length all - length z)) z room (at₀ + 2 * n) bytes
  pub within : length z ≤ length all
  pub fits : p.chunk + n < 2 ^ 64

module _ {b : ℕ} {stsc stsz offsets : List ℕ} {chunks i j : ℕ} {p : ChunkPosition} {at : ℕ} where
  pub passing_start : (room : List ℕ) {z : List ℕ} → Moving b stsc stsz offsets chunks i j p at (length room) → ListedTo stsz j p.begin z → p.chunk < 2 ^ 64
      → Passing b stsc stsz offsets chunks i j p room at z p.cursor z room 0 0
  passing_start room {z} w s h =
      let k : p.chunk + 0 ≡ p.chunk = omega arith in
      let l : p.begin + (length z - length z) / 4 ≡ p.begin = omega arith in
      record {
        walk = same_walk (λ x. record { cursor = p.cursor; chunk = k x; begin = l x }) (omega arith) (listing_start room w s);
        within = omega arith;
        fits = omega arith;
      }

module _ {b : ℕ} {stsc stsz offsets : List ℕ} {chunks i j : ℕ} {p : ChunkPosition} {room₀ : List ℕ} {at₀ : ℕ} {all : List ℕ} {c : ChunkCursor} {z room : List ℕ} {n bytes : ℕ}
    (w : Passing b stsc stsz offsets chunks i j p room₀ at₀ all c z room n bytes) where
  abbrev here : ChunkPosition
  here = place_by p c n (length all - length z)

  pub passing_begin : ListedTo stsz j p.begin all → p.begin < 2 ^ 64 → j < 2 ^ 32 → p.begin + (length all - length z) / 4 < 2 ^ 64
  passing_begin s h k = elim (ℕ_discrete (length all) 0) [
    | yes e ↦ omega (arith, w.within)
    | no e ↦ omega (arith, s.ends e)
  ]

  module _ (e : is_whole c (length z) ≡ true) where
    pub passing_turn : {q : Pair} {cs : List ℕ} → q ≡ listed_pair cs z c (p.chunk + n) → cs ≡ chunk_offsets offsets → {new : List ℕ} → new ≡ sets room (at₀ + 2 * n) (q.offset ∷ q.length ∷ [])
        → {y : List ℕ} → y ≡ drop (c.per * 4) z → {r : ChunkCursor} → r ≡ readied stsc chunks (past 1 c) → p.chunk + n < 2 ^ 63
        → Passing b stsc stsz offsets chunks i j p room₀ at₀ all r y new (n + 1) (bytes + q.length)
    passing_turn {q} d f g {y} k {r} o h =
        let m : length y ≡ length z - c.per * 4 = ap length k ∙ length-drop (c.per * 4) z in
        let l = sizes_there w.walk e in
        let a : p.chunk + (n + 1) ≡ p.chunk + n + 1 = omega arith in
        let t : p.begin + (length all - length y) / 4 ≡ p.begin + (length all - length z) / 4 + c.per = omega (arith, w.within) in
        record {
          walk = same_walk (λ x. record { cursor = o x; chunk = a x; begin = t x }) (omega arith) (listing_turn w.walk e d f g k refl);
          within = omega (arith, w.within);
          fits = omega arith;
        }

    pub passing_less : {r : ChunkCursor} → r ≡ readied stsc chunks (past 1 c) → length (ahead stsc chunks r) < length (ahead stsc chunks c)
    passing_less o = rw o (listing_less w.walk e refl)
