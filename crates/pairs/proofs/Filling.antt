-- A loop that puts pairs into a room: what it has put and what lies ahead make up what all pairs make.
-- Assumes nothing.
use Prim.Native.Nat.{ℕ, ◌+◌, ◌*◌, ◌^◌, ◌≤◌, ◌<◌}
use mathlib.Core.Path.{◌≡◌, refl, sym, ap, ◌∙◌}
use mathlib.Core.Bool.{true, false, ◌||◌}
use mathlib.Core.List.{List, [], ◌∷◌, ◌++◌}
use native.Mathlib.Omega.{arith}
use lib.ListN.{length, length-append}
use lib.Seq.{sets, length-sets}
use lib.Dec.{eqb, leb}
use Rattle.lists.specs.Lists.{sum}
use Rattle.lists.proofs.Stores.{sets_append}
use Rattle.chunks.specs.Cursors.{ahead}
use Rattle.pairs.specs.Pairs.{flat}
use Rattle.pairs.specs.Walks.{pairs_between, lengths_of, Fitting, Putting, pairs_ahead, At, place_past, StartsAt, AtOnce, pairs_at_once, Room, Put}
use Rattle.pairs.specs.Moves.{Filling, Moving, Moves}
use Rattle.pairs.specs.declared.Pair.{Pair}
use Rattle.pairs.specs.declared.ChunkPosition.{ChunkPosition}
use Rattle.pairs.specs.declared.listed.Moved.{Moved}
use Rattle.pairs.proofs.Wholes.{at_once_length}
use Rattle.pairs.proofs.Walking.{at_end, at_past, at_once, from_start}

-- ---- some pairs and the rest

pub flat_append : (qs l : List Pair) → flat (qs ++ l) ≡ flat qs ++ flat l
flat_append [] l = refl
flat_append (q ∷ qs) l = ap (λ r. q.offset ∷ q.length ∷ r) (flat_append qs l)

pub flat_length : (qs : List Pair) → length (flat qs) ≡ 2 * length qs
flat_length [] = refl
flat_length (q ∷ qs) = omega (arith, flat_length qs)

lengths_append : (qs l : List Pair) → sum (lengths_of (qs ++ l)) ≡ sum (lengths_of qs) + sum (lengths_of l)
lengths_append [] l = omega arith
lengths_append (q ∷ qs) l = omega (arith, lengths_append qs l)

pub fitting_append : (b : ℕ) (qs l : List Pair) → Fitting b (qs ++ l) → Fitting b qs × Fitting b l
fitting_append b [] l f = (tt, f)
fitting_append b (q ∷ qs) l f = let r = fitting_append b qs l f.2 in ((f.0, f.1, r.0), r.1)

-- one pair by itself
pub one_room : {b : ℕ} {q : Pair} {at places : ℕ} → Room b (q ∷ []) at places → (q.offset < b) × (q.length < b) × (at + 2 ≤ places)
one_room w = (w.fits.0, w.fits.1, omega (arith, w.space))

pub one_put : {q : Pair} {room : List ℕ} {at : ℕ} {new : List ℕ} → new ≡ sets room at (q.offset ∷ q.length ∷ []) → Put (q ∷ []) room at q.length new
one_put e = record { added = omega arith; stored = e }

-- the same pairs
pub same_room : {b : ℕ} {l m : List Pair} {at places : ℕ} → l ≡ m → Room b m at places → Room b l at places
same_room e w = rw e w

pub same_put : {l m : List Pair} {room : List ℕ} {at bytes : ℕ} {new : List ℕ} → l ≡ m → Put l room at bytes new → Put m room at bytes new
same_put e w = rw e at w

-- ---- the loop

pub filling_start : {b : ℕ} (all : List Pair) (room : List ℕ) (at : ℕ) → Room b all at (length room) → Filling b all room at all room at 0
filling_start all room at w = record { fits = w.fits; few = w.space; placed = refl; same = refl; stored = refl; added = omega arith }

pub filling_end : {b : ℕ} (all : List Pair) (room₀ : List ℕ) (at₀ : ℕ) (rest : List Pair) (room : List ℕ) (at total : ℕ) → Filling b all room₀ at₀ rest room at total → rest ≡ [] → Put all room₀ at₀ total room
filling_end all room₀ at₀ rest room at total w e =
    let a : total + 0 ≡ sum (lengths_of all) = rw e at w.added in
    record { added = omega arith; stored = rw e at w.stored }

-- what was put on the way from one rest to another
pub filling_then : {b : ℕ} {all rest last : List Pair} {room₀ room after : List ℕ} {at₀ at at' total bytes : ℕ} → Filling b all room₀ at₀ rest room at total
    → Filling b rest room at last after at' bytes → Filling b all room₀ at₀ last after at' (total + bytes)
filling_then w v = record {
  fits = v.fits;
  few = v.few;
  placed = v.placed ∙ w.placed;
  same = v.same ∙ w.same;
  stored = v.stored ∙ w.stored;
  added = omega (arith, w.added, v.added);
}

-- the next ones put
module _ {b : ℕ} {all : List Pair} {room₀ : List ℕ} {at₀ : ℕ} {rest : List Pair} {room : List ℕ} {at total : ℕ} (w : Filling b all room₀ at₀ rest room at total) (qs l : List Pair) (e : rest ≡ qs ++ l) where
  added : total + (sum (lengths_of qs) + sum (lengths_of l)) ≡ sum (lengths_of all)
  added = omega (arith, w.added, ap (λ r. sum (lengths_of r)) e, lengths_append qs l)

  few : at + 2 * (length qs + length l) ≤ length room
  few = omega (arith, w.few, ap length e, length-append qs l)

  placed : at + 2 * (length qs + length l) ≡ at₀ + 2 * length all
  placed = omega (arith, w.placed, ap length e, length-append qs l)

  module _ (h : sum (lengths_of all) < 2 ^ 64) where
    pub next_room : Room b qs at (length room)
    next_room = record { fits = (fitting_append b qs l (rw e at w.fits)).0; total = omega (arith, added); space = omega (arith, few) }

    pub next_total : total + sum (lengths_of qs) < 2 ^ 64
    next_total = omega (arith, added)

  pub filling_turn : {new : List ℕ} {at' total' : ℕ} → new ≡ sets room at (flat qs) → at' ≡ at + 2 * length qs → total' ≡ total + sum (lengths_of qs)
      → Filling b all room₀ at₀ l new at' total'
  filling_turn {new} {at'} {total'} g a t =
      let s : length new ≡ length room = ap length g ∙ length-sets room at (flat qs) in
      let u : at + length (flat qs) ≡ at' = omega (arith, flat_length qs) in
      record {
        fits = (fitting_append b qs l (rw e at w.fits)).1;
        few = omega (arith, few);
        placed = omega (arith, placed);
        same = s ∙ w.same;
        stored = rw (g, ← u) (sym (sets_append room at (flat qs) (flat l)) ∙ ap (sets room at) (sym (flat_append qs l) ∙ ap flat (sym e)) ∙ w.stored);
        added = omega (arith, added);
      }

-- one pair put
module _ {b : ℕ} {all : List Pair} {room₀ : List ℕ} {at₀ : ℕ} {rest : List Pair} {room : List ℕ} {at total : ℕ} (w : Filling b all room₀ at₀ rest room at total) (q : Pair) (l : List Pair) (e : rest ≡ q ∷ l) where
  pub one_fits : sum (lengths_of all) < 2 ^ 64 → (q.offset < b) × (q.length < b) × (at + 2 ≤ length room)
  one_fits h = one_room (next_room w (q ∷ []) l e h)

  pub one_total : sum (lengths_of all) < 2 ^ 64 → total + q.length < 2 ^ 64
  one_total h = omega (arith, next_total w (q ∷ []) l e h)

  pub one_turn : {new : List ℕ} → new ≡ sets room at (q.offset ∷ q.length ∷ []) → Filling b all room₀ at₀ l new (at + 2) (total + q.length)
  one_turn g = filling_turn w (q ∷ []) l e g (omega arith) (omega arith)

-- two pairs put, one after the other
module _ {b : ℕ} {all : List Pair} {room₀ : List ℕ} {at₀ : ℕ} {rest : List Pair} {room : List ℕ} {at total : ℕ} (w : Filling b all room₀ at₀ rest room at total) (q r : Pair) (l : List Pair) (e : rest ≡ q ∷ r ∷ l)
    {mid : List ℕ} (g : mid ≡ sets room at (q.offset ∷ q.length ∷ [])) where
  middle : Filling b all room₀ at₀ (r ∷ l) mid (at + 2) (total + q.length)
  middle = one_turn w q (r ∷ l) e g

  pub two_fits : sum (lengths_of all) < 2 ^ 64 → (r.offset < b) × (r.length < b) × (at + 2 + 2 ≤ length mid)
  two_fits h = one_fits middle r l refl h

  pub two_room : sum (lengths_of all) < 2 ^ 64 → at + 4 ≤ length room₀
  two_room h = omega (arith, (two_fits h).2, middle.same)

  pub two_total : sum (lengths_of all) < 2 ^ 64 → total + q.length + r.length < 2 ^ 64
  two_total h = one_total middle r l refl h

  pub two_turn : {new : List ℕ} → new ≡ sets mid (at + 2) (r.offset ∷ r.length ∷ []) → Filling b all room₀ at₀ l new (at + 4) (total + q.length + r.length)
  two_turn f = filling_turn middle (r ∷ []) l refl f (omega arith) (omega arith)

-- ---- from place to place

pub record Walked (b : ℕ) (stsc stsz offsets : List ℕ) (chunks i j : ℕ) (room₀ : List ℕ) (p : ChunkPosition) (room : List ℕ) (at total : ℕ) : Type 0 where
  pub place : At stsc chunks i p
  pub filling : Filling b (pairs_between stsc stsz offsets chunks i j) room₀ 0 (pairs_ahead stsc stsz offsets chunks i j p) room at total

pub walked_start : {b : ℕ} (stsc stsz offsets : List ℕ) (chunks i j : ℕ) (room : List ℕ) (p : ChunkPosition) → StartsAt stsc chunks i p → Putting b stsc stsz offsets chunks i j (length room)
    → Walked b stsc stsz offsets chunks i j room p room 0 0
walked_start stsc stsz offsets chunks i j room p s w =
    record {
      place = s.at;
      filling = rw (from_start stsc stsz offsets chunks i j p s) (filling_start (pairs_between stsc stsz offsets chunks i j) room 0 (record { fits = w.fits; total = w.total; space = omega (arith, w.room) }));
    }

module _ {b : ℕ} {stsc stsz offsets : List ℕ} {chunks i j : ℕ} {room₀ : List ℕ} {p : ChunkPosition} {room : List ℕ} {at total : ℕ} (w : Walked b stsc stsz offsets chunks i j room₀ p room at total) where
  pub walked_end : (eqb p.cursor.remaining 0 || leb j p.begin) ≡ true
      → (total ≡ sum (lengths_of (pairs_between stsc stsz offsets chunks i j))) × (room ≡ sets room₀ 0 (flat (pairs_between stsc stsz offsets chunks i j)))
  walked_end e =
      let d = filling_end _ _ _ _ _ _ _ w.filling (at_end stsc stsz offsets chunks i j p w.place e) in
      (d.added, d.stored)

  pub walked_many : (eqb p.cursor.remaining 0 || leb j p.begin) ≡ true → at ≡ 2 * length (pairs_between stsc stsz offsets chunks i j)
  walked_many e = omega (arith, w.filling.placed, ap length (at_end stsc stsz offsets chunks i j p w.place e))

  module _ (e : (eqb p.cursor.remaining 0 || leb j p.begin) ≡ false) (n : ℕ) (o : AtOnce stsz offsets i j p n) where
    abbrev these : List Pair
    these = pairs_at_once stsz offsets i j p n

    abbrev others : List Pair
    others = pairs_ahead stsc stsz offsets chunks i j (place_past stsc chunks n p)

    split : pairs_ahead stsc stsz offsets chunks i j p ≡ these ++ others
    split = at_once stsc stsz offsets chunks i j p w.place e n o

    pub step_at : at + 2 * n ≤ length room₀
    step_at = omega (arith, few w.filling these others split, at_once_length stsz offsets i j p n o, w.filling.same)

    module _ (h : sum (lengths_of (pairs_between stsc stsz offsets chunks i j)) < 2 ^ 64) where
      pub step_room : Room b these at (length room)
      step_room = next_room w.filling these others split h

      pub step_total : {bytes : ℕ} {new : List ℕ} → Put these room at bytes new → total + bytes < 2 ^ 64
      step_total d = omega (arith, next_total w.filling these others split h, d.added)

    pub step_turn : {bytes : ℕ} {new : List ℕ} → Put these room at bytes new → {r : ChunkPosition} → r ≡ place_past stsc chunks n p
        → Walked b stsc stsz offsets chunks i j room₀ r new (at + 2 * n) (total + bytes)
    step_turn {bytes} {new} d f =
        let a : at + 2 * n ≡ at + 2 * length these = omega (arith, at_once_length stsz offsets i j p n o) in
        let t : total + bytes ≡ total + sum (lengths_of these) = omega (arith, d.added) in
        rw f (record {
          place = at_past stsc stsz offsets chunks i j p w.place e n o.few o.some;
          filling = filling_turn w.filling these others split d.stored a t;
        })

  -- more of them put on the way to another place
  pub walked_moving : sum (lengths_of (pairs_between stsc stsz offsets chunks i j)) < 2 ^ 64 → length stsc < 2 ^ 32 → i ≤ p.begin → Moving b stsc stsz offsets chunks i j p at (length room)
  walked_moving h s f = record {
    short = s;
    place = w.place;
    from = f;
    room = record { fits = w.filling.fits; total = omega (arith, w.filling.added); space = w.filling.few };
  }

  pub walked_moved : {m : Moved} {after : List ℕ} → Moves b stsc stsz offsets chunks i j p room at m after → Walked b stsc stsz offsets chunks i j room₀ m.place after m.at (total + m.bytes)
  walked_moved v = record { place = v.place; filling = filling_then w.filling v.filling }

  pub walked_total : sum (lengths_of (pairs_between stsc stsz offsets chunks i j)) < 2 ^ 64 → {m : Moved} {after : List ℕ} → Moves b stsc stsz offsets chunks i j p room at m after → total + m.bytes < 2 ^ 64
  walked_total h v = omega (arith, (walked_moved v).filling.added)

pub walked_less : {b : ℕ} {stsc stsz offsets : List ℕ} {chunks i j : ℕ} {p : ChunkPosition} {room : List ℕ} {at : ℕ} {m : Moved} {after : List ℕ} {n : ℕ} → Moves b stsc stsz offsets chunks i j p room at m after
    → length (ahead stsc chunks p.cursor) < n → length (ahead stsc chunks m.place.cursor) < n
walked_less v h = omega (arith, v.fewer)
