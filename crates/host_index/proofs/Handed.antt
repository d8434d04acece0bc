-- What is handed over, case by case; and that an index that was filled is that of its film, so that by it the question's own answer is given.
-- Assumes nothing.
use Prim.Native.Nat.{ℕ, ◌*◌, ◌≤◌, ◌<◌, ◌^◌}
use mathlib.Core.Path.{◌≡◌, refl, sym, ap, ◌∙◌}
use mathlib.Core.List.{List, [], ◌∷◌, ◌++◌}
use native.Mathlib.Omega.{arith}
use native.Mathlib.Nat.{mod-lt}
use borrow.Author.Tests.{eq-eqb, ne_eqb}
use lib.ListN.{length, get_or, take, drop}
use lib.Seq.{take_at}
use Rattle.structure.specs.declared.source.Source.{Source}
use Rattle.structure.specs.Rows.{or_else}
use Rattle.movie.specs.Rooms.{no_room, filled_room, room_after}
use Rattle.questions.specs.declared.samples.Sample.{Sample}
use Rattle.std.specs.Prelude.{Result, Ok}
use Rattle.refusals.specs.declared.Refusal.{Refusal}
use Rattle.hand.specs.Places.{Hands, Fills}
use Rattle.hand.proofs.Answered.{judged, fills, too_few}
use Rattle.opened.specs.declared.Opened.{Opened}
use Rattle.host_opened.specs.Handle.{opened_in}
use Rattle.host_opened.specs.Hands.{HandsOpening}
use Rattle.host_opened.proofs.Handed.{long, opening_opens}
use Rattle.sample_index.specs.Index.{checkpoints_of, index_numbers, index_length, IndexInto, Indexes, SampleByIndex}
use Rattle.sample_index.proofs.Filled.{numbers_length}
use Rattle.host_index.specs.Hands.{of_index, HandsIndex, SameByIndex}

-- ---- filling

module _ (s handle index places : List ℕ) where
  pub index_handle_short : length handle < 19 → HandsIndex s handle index places 16 places index
  index_handle_short h = record { short = λ l. (refl, refl, refl); whole = λ l. absurd (omega arith) }

  module _ (h : 19 ≤ length handle) where
    whole_index : (r : ℕ) (after filled : List ℕ) → Fills (of_index s (opened_in handle) index) places (index_numbers s (opened_in handle)) index r after filled → HandsIndex s handle index places r after filled
    whole_index r after filled f = record { short = λ l. absurd (omega arith); whole = λ l. f }

    as_judged : of_index s (opened_in handle) index ≡ judged (no_room (index_numbers s (opened_in handle)) index) (index_length (opened_in handle) ∷ [])
    unfolding of_index
    as_judged = refl

    pub index_no_place : length places < 1 → HandsIndex s handle index places 16 places index
    unfolding or_else
    index_no_place l =
        whole_index 16 places index
        (too_few _ (no_room (index_numbers s (opened_in handle)) index) 0 (index_length (opened_in handle) ∷ []) places (index_numbers s (opened_in handle)) index 16 as_judged refl l refl)

    module _ (k : Opened) (e : k ≡ opened_in handle) (p : 1 ≤ length places) (f : ℕ) (filled : List ℕ) (a : IndexInto s k index f filled) where
      into : IndexInto s (opened_in handle) index f filled
      into = rw e at a

      pub index_refused : (f ≡ 0 → ⊥) → (r : ℕ) (after : List ℕ) → Hands f (0 ∷ []) places r after → HandsIndex s handle index places r after filled
      unfolding of_index
      index_refused z r after d =
          let n : no_room (index_numbers s (opened_in handle)) index ≡ f = sym into.result in
          whole_index r after filled
          (fills _ (no_room (index_numbers s (opened_in handle)) index) (index_length (opened_in handle) ∷ []) f (0 ∷ []) places _ _ r after filled as_judged (rw (n, ne_eqb f 0 z)) p d (rw n into.filled))

      pub index_done : f ≡ 0 → (c v r : ℕ) (after : List ℕ) → c ≡ checkpoints_of k.samples → v ≡ 6 * c → Hands 0 (v ∷ []) places r after → HandsIndex s handle index places r after filled
      unfolding of_index
      index_done z c v r after ec ev d =
          let n : no_room (index_numbers s (opened_in handle)) index ≡ 0 = sym into.result ∙ z in
          let w : v ≡ index_length (opened_in handle) = ev ∙ ap (λ (x : ℕ). 6 * x) ec ∙ ap (λ (x : Opened). index_length x) e in
          whole_index r after filled
          (fills _ (no_room (index_numbers s (opened_in handle)) index) (index_length (opened_in handle) ∷ []) 0 (v ∷ []) places _ _ r after filled as_judged (rw (n, w)) p d (rw n (rw z at into.filled)))

-- ---- by a handle and an index

-- the numbers of a sample are low
pub indexed_low : (s ns index : List ℕ) (h : Opened) (n : ℕ) (a : Result Sample Refusal) → h ≡ opened_in ns → SampleByIndex s h index n a → (x : Sample) → a ≡ Ok x
    → (x.decode < 2 ^ 63) × (x.chunk < 2 ^ 63) × (x.offset < 2 ^ 63)
unfolding opened_in
indexed_low s ns index h n a f b x e =
    let l = b.low x e in
    let m = mod-lt (get_or ns 15 0) {m = 4294967296} (omega arith) in
    (omega (arith, l.0), omega (arith, l.1, ap (λ (g : Opened). g.chunks) f, m), l.2)

-- ---- what opening, filling and asking come to

module _ (s : List ℕ) (w : Source) (id : ℕ) (room : List ℕ) (q : ℕ) (handle : List ℕ) (o : HandsOpening s w id room q handle) (z : q ≡ 0) (index places : List ℕ) (r : ℕ) (after filled : List ℕ)
    (d : HandsIndex s handle index places r after filled) (y : r ≡ 0) where
  wide : 19 ≤ length handle
  wide = long s w id room q handle o z

  -- what then stands in the room is the index
  pub filling_indexes : Indexes s (opened_in handle) filled
  unfolding room_after filled_room
  filling_indexes =
      let f = (d.whole wide).listed in
      let g : filled ≡ index_numbers s (opened_in handle) ++ drop (length (index_numbers s (opened_in handle))) index = rw y at f in
      ap (take (index_length (opened_in handle))) g ∙ take_at (index_numbers s (opened_in handle)) _ (index_length (opened_in handle)) (numbers_length s (opened_in handle))

  -- so by the two each question hands over what it does without them
  pub same_by_index : SameByIndex s w id handle filled
  same_by_index = record {
    sample = λ n p k x h. let a = h.answered wide in rw (a.promise.right w id (opening_opens s w id room q handle o z) filling_indexes).answer at a.handed;
    number = λ t p k x h. let a = h.answered wide in rw (a.promise.right w id (opening_opens s w id room q handle o z) filling_indexes).answer at a.handed;
  }
