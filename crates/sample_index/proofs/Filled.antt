-- The room with the checkpoints of one table after the other; and the parts of an index that begins with them.
-- Assumes nothing.
use Prim.Native.Nat.{ℕ, suc, ◌+◌, ◌-◌, ◌*◌, ◌≤◌, ◌<◌}
use mathlib.Core.Path.{◌≡◌, refl, sym, ap, ◌∙◌}
use mathlib.Core.List.{List, [], ◌∷◌, ◌++◌, append_assoc, append-nil}
use native.Mathlib.Omega.{arith}
use native.Mathlib.Nat.{zero-add}
use borrow.Author.Tests.{lt-ltb, le-ltb}
use lib.ListN.{length, get_or, take, drop, length-append, length-take, length-drop, take-append-drop, drop_of_length-le, get_or-append}
use borrow.Rule.Slice.PartMut.{put_mid}
use lib.Seq.{sets, sets-eq, length-sets, take_at, drop_at, drop-drop}
use Rattle.bigendian.proofs.Parts.{rest}
use Rattle.lists.specs.Lists.{Run}
use Rattle.runs.specs.Runs.{runs_of}
use Rattle.places.specs.Places.{part_in}
use Rattle.movie.specs.Rooms.{no_room, filled_room, room_after}
use Rattle.opened.specs.declared.Opened.{Opened}
use Rattle.checkpoints.specs.Points.{point_numbers, CountsAt, TotalsAt}
use Rattle.checkpoints.proofs.Adding.{points_length}
use Rattle.chunk_lookups.specs.From.{deal_runs}
use Rattle.sample_index.specs.Index.{checkpoints_of, index_numbers, index_length, IndexInto, Indexes}

-- ---- the room

-- a list more after the n places that have p
put_past : (p rest q r : List ℕ) (n : ℕ) → r ≡ p ++ rest → length p ≡ n → length q ≤ length rest → take n r ++ sets (drop n r) 0 q ≡ (p ++ q) ++ drop (length q) rest
put_past p rest q r n e l h =
    let a : take n r ≡ p = ap (take n) e ∙ take_at p rest n l in
    let b : drop n r ≡ rest = ap (drop n) e ∙ drop_at p rest n l in
    let s : sets rest 0 q ≡ q ++ drop (length q) rest = rw zero-add at (sets-eq q rest 0 (omega arith)) in
    rw (a, b, s) (sym (append_assoc p q (drop (length q) rest)))

-- what is put into the part of a room that begins at a place
put-mid : (a : ℕ) (xs ys v : List ℕ) → ys ≡ sets (take (length xs - a) (drop a xs)) 0 v → put_mid a (length xs - a) xs ys ≡ take a xs ++ sets (drop a xs) 0 v
put-mid a xs ys v e =
    let f : ys ≡ sets (drop a xs) 0 v = e ∙ ap (λ (l : List ℕ). sets l 0 v) (rest a xs) in
    let g : drop (length xs - a) (drop a xs) ≡ [] = drop_of_length-le (drop a xs) {i = length xs - a} (omega (arith, length-drop a xs)) in
    rw (g, f) (ap (λ (l : List ℕ). take a xs ++ l) (append-nil (sets (drop a xs) 0 v)))

module _ (s : List ℕ) (h : Opened) where
  pub numbers_length : length (index_numbers s h) ≡ index_length h
  unfolding index_numbers
  numbers_length =
      let c = checkpoints_of h.samples in
      let a = point_numbers (runs_of (part_in s h.tables.stts)) c in
      let b = point_numbers (runs_of (part_in s h.tables.ctts)) c in
      let d = point_numbers (deal_runs (part_in s h.tables.stsc) h.chunks) c in
      omega (
        arith,
        length-append (a ++ b) d,
        length-append a b,
        points_length (runs_of (part_in s h.tables.stts)) c,
        points_length (runs_of (part_in s h.tables.ctts)) c,
        points_length (deal_runs (part_in s h.tables.stsc) h.chunks) c,
      )

  pub index_short : (room : List ℕ) → length room < index_length h → IndexInto s h room 16 room
  unfolding no_room room_after
  index_short room l = record { result = rw (numbers_length, lt-ltb (length room) (index_length h) l); filled = refl }

  -- the three tables, one after the other
  pub index_filled : (room r1 r2 r3 x y z : List ℕ) (c : ℕ) → c ≡ checkpoints_of h.samples → index_length h ≤ length room → x ≡ part_in s h.tables.stts → y ≡ part_in s h.tables.ctts → z ≡ part_in s h.tables.stsc
      → r1 ≡ sets room 0 (point_numbers (runs_of x) c) → r2 ≡ take (2 * c) r1 ++ sets (drop (2 * c) r1) 0 (point_numbers (runs_of y) c)
      → r3 ≡ take (4 * c) r2 ++ sets (drop (4 * c) r2) 0 (point_numbers (deal_runs z h.chunks) c) → IndexInto s h room 0 r3
  unfolding no_room room_after filled_room index_numbers
  index_filled room r1 r2 r3 x y z c ec l ex ey ez e1 e2 e3 =
      let a = point_numbers (runs_of x) c in
      let b = point_numbers (runs_of y) c in
      let d = point_numbers (deal_runs z h.chunks) c in
      let la = points_length (runs_of x) c in
      let lb = points_length (runs_of y) c in
      let ld = points_length (deal_runs z h.chunks) c in
      let l' : 6 * c ≤ length room = omega (arith, ec) in
      let f1 : r1 ≡ a ++ drop (2 * c) room = e1 ∙ rw (zero-add, la) at (sets-eq a room 0 (omega (arith, la))) in
      let m1 = length-drop (2 * c) room in
      let f2 : r2 ≡ (a ++ b) ++ drop (2 * c) (drop (2 * c) room) = e2 ∙ rw lb at (put_past a (drop (2 * c) room) b r1 (2 * c) f1 la (omega arith)) in
      let m2 = length-drop (2 * c) (drop (2 * c) room) in
      let lab : length (a ++ b) ≡ 4 * c = omega (arith, length-append a b) in
      let f3 : r3 ≡ ((a ++ b) ++ d) ++ drop (2 * c) (drop (2 * c) (drop (2 * c) room)) = e3 ∙ rw ld at (put_past (a ++ b) (drop (2 * c) (drop (2 * c) room)) d r2 (4 * c) f2 lab (omega arith)) in
      let k : drop (2 * c) (drop (2 * c) (drop (2 * c) room)) ≡ drop (6 * c) room =
      drop-drop (2 * c) (2 * c) (drop (2 * c) room) ∙ drop-drop (2 * c + 2 * c) (2 * c) room ∙ (let w : 2 * c + (2 * c + 2 * c) ≡ 6 * c = omega arith in ap (λ (n : ℕ). drop n room) w) in
      let g : r3 ≡ ((a ++ b) ++ d) ++ drop (6 * c) room = f3 ∙ rw k in
      record {
        result = rw (numbers_length, le-ltb (length room) (index_length h) l);
        filled = rw (numbers_length) (rw (ec, ex, ey, ez) at g);
      }

  -- the same, from what the code has: a list put into the last places of the room
  pub index_put : (room r1 q2 q3 x y z : List ℕ) (c : ℕ) → c ≡ checkpoints_of h.samples → index_length h ≤ length room → x ≡ part_in s h.tables.stts → y ≡ part_in s h.tables.ctts → z ≡ part_in s h.tables.stsc
      → r1 ≡ sets room 0 (point_numbers (runs_of x) c) → q2 ≡ sets (take (length r1 - 2 * c) (drop (2 * c) r1)) 0 (point_numbers (runs_of y) c)
      → q3 ≡ sets (take (length (put_mid (2 * c) (length r1 - 2 * c) r1 q2) - 4 * c) (drop (4 * c) (put_mid (2 * c) (length r1 - 2 * c) r1 q2))) 0 (point_numbers (deal_runs z h.chunks) c)
      → IndexInto s h room 0 (put_mid (4 * c) (length (put_mid (2 * c) (length r1 - 2 * c) r1 q2) - 4 * c) (put_mid (2 * c) (length r1 - 2 * c) r1 q2) q3)
  index_put room r1 q2 q3 x y z c ec l ex ey ez e1 e2 e3 =
      let r2 = put_mid (2 * c) (length r1 - 2 * c) r1 q2 in
      let f2 : r2 ≡ take (2 * c) r1 ++ sets (drop (2 * c) r1) 0 (point_numbers (runs_of y) c) = put-mid (2 * c) r1 q2 (point_numbers (runs_of y) c) e2 in
      index_filled room r1 r2 (put_mid (4 * c) (length r2 - 4 * c) r2 q3) x y z c ec l ex ey ez e1 f2 (put-mid (4 * c) r2 q3 (point_numbers (deal_runs z h.chunks) c) e3)

-- ---- an index that begins with its numbers

counts_front : (rs : List Run) (c : ℕ) (rest : List ℕ) → CountsAt rs (point_numbers rs c) c → CountsAt rs (point_numbers rs c ++ rest) c
counts_front rs c rest a i l = get_or-append (point_numbers rs c) rest 0 (2 * i) (omega (arith, points_length rs c)) ∙ a i l

totals_front : (rs : List Run) (c : ℕ) (rest : List ℕ) → TotalsAt rs (point_numbers rs c) c → TotalsAt rs (point_numbers rs c ++ rest) c
totals_front rs c rest a i l = get_or-append (point_numbers rs c) rest 0 (2 * i + 1) (omega (arith, points_length rs c)) ∙ a i l

module _ (s : List ℕ) (h : Opened) (index : List ℕ) (e : Indexes s h index) where
  -- it is long enough
  pub index_long : index_length h ≤ length index
  index_long = omega (arith, ap length e, length-take (index_length h) index, numbers_length s h)

  module _ (c : ℕ) (ec : c ≡ checkpoints_of h.samples) where
    split : index ≡ point_numbers (runs_of (part_in s h.tables.stts)) c
        ++ (point_numbers (runs_of (part_in s h.tables.ctts)) c ++ (point_numbers (deal_runs (part_in s h.tables.stsc) h.chunks) c ++ drop (6 * c) index))
    unfolding index_numbers
    split =
        let a = point_numbers (runs_of (part_in s h.tables.stts)) c in
        let b = point_numbers (runs_of (part_in s h.tables.ctts)) c in
        let d = point_numbers (deal_runs (part_in s h.tables.stsc) h.chunks) c in
        let f : take (6 * c) index ≡ (a ++ b) ++ d = rw (← ec) at e in
        sym (take-append-drop (6 * c) index)
        ∙ ap (λ (l : List ℕ). l ++ drop (6 * c) index) f
        ∙ append_assoc (a ++ b) d (drop (6 * c) index)
        ∙ append_assoc a b (d ++ drop (6 * c) index)

    past_first : drop (2 * c) index ≡ point_numbers (runs_of (part_in s h.tables.ctts)) c ++ (point_numbers (deal_runs (part_in s h.tables.stsc) h.chunks) c ++ drop (6 * c) index)
    past_first = ap (drop (2 * c)) split ∙ drop_at (point_numbers (runs_of (part_in s h.tables.stts)) c) _ (2 * c) (points_length (runs_of (part_in s h.tables.stts)) c)

    past_second : drop (4 * c) index ≡ point_numbers (deal_runs (part_in s h.tables.stsc) h.chunks) c ++ drop (6 * c) index
    past_second =
        let z : 4 * c ≡ 2 * c + 2 * c = omega arith in
        ap (λ (n : ℕ). drop n index) z
        ∙ sym (drop-drop (2 * c) (2 * c) index)
        ∙ ap (drop (2 * c)) past_first
        ∙ drop_at (point_numbers (runs_of (part_in s h.tables.ctts)) c) _ (2 * c) (points_length (runs_of (part_in s h.tables.ctts)) c)

    -- what each table's checkpoints have, the index has of it
    pub counts_stts : CountsAt (runs_of (part_in s h.tables.stts)) (point_numbers (runs_of (part_in s h.tables.stts)) c) c → CountsAt (runs_of (part_in s h.tables.stts)) index c
    counts_stts a = rw split (counts_front (runs_of (part_in s h.tables.stts)) c _ a)

    pub totals_stts : TotalsAt (runs_of (part_in s h.tables.stts)) (point_numbers (runs_of (part_in s h.tables.stts)) c) c → TotalsAt (runs_of (part_in s h.tables.stts)) index c
    totals_stts a = rw split (totals_front (runs_of (part_in s h.tables.stts)) c _ a)

    pub counts_ctts : CountsAt (runs_of (part_in s h.tables.ctts)) (point_numbers (runs_of (part_in s h.tables.ctts)) c) c → CountsAt (runs_of (part_in s h.tables.ctts)) (drop (2 * c) index) c
    counts_ctts a = rw past_first (counts_front (runs_of (part_in s h.tables.ctts)) c _ a)

    pub counts_stsc : CountsAt (deal_runs (part_in s h.tables.stsc) h.chunks) (point_numbers (deal_runs (part_in s h.tables.stsc) h.chunks) c) c
        → CountsAt (deal_runs (part_in s h.tables.stsc) h.chunks) (drop (4 * c) index) c
    counts_stsc a = rw past_second (counts_front (deal_runs (part_in s h.tables.stsc) h.chunks) c _ a)

    pub totals_stsc : TotalsAt (deal_runs (part_in s h.tables.stsc) h.chunks) (point_numbers (deal_runs (part_in s h.tables.stsc) h.chunks) c) c
        → TotalsAt (deal_runs (part_in s h.tables.stsc) h.chunks) (drop (4 * c) index) c
    totals_stsc a = rw past_second (totals_front (deal_runs (part_in s h.tables.stsc) h.chunks) c _ a)
