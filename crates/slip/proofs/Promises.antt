-- What every answer of `read_slip` and `read_any_slip` keeps, whatever the bytes and the room: a slip written reads back, given room, as the same numbers; a slip accepted is the
-- only writing of its numbers; bytes are refused 17 exactly if they are the writing of no numbers that keep document 01's rules. The idea: `slip_read` and
-- `slip_only` decide what the bytes are, and an answer is decided by its numbers.
-- Assumes nothing.
use mathlib.Core.Path.{◌≡◌, refl, ap, sym, subst, ◌∙◌}
use mathlib.Core.Bool.{Bool, true, false}
use mathlib.Core.List.{List, ◌++◌}
use Prim.Native.Nat.{ℕ, ◌<◌, ◌≤◌, ◌^◌}
use native.Mathlib.Omega.{arith}
use lib.ListN.{length, take, drop}
use lib.Seq.{take_at}
use lib.Dec.{ltb}
use borrow.Author.Tests.{lt-ltb, le-ltb, ltb-true, ltb-false}
use Rattle.slip_head.specs.Bytes.{after_form, head_numbers, any_wide, form_for, slip_bytes, Rules}
use Rattle.slip_head.specs.declared.Head.{Head}
use Rattle.slip_head.proofs.Writes.{put_slip}
use Rattle.slip.specs.Slip.{Outcome, accepted, malformed, slip_in, bound_of, IsSlip, slip_read_numbers, numbers_for, room_for, Reads}
use Rattle.slip.specs.Slip.{SlipRead}
use Rattle.std.specs.Prelude.{Ok, Err}
use Rattle.slip.specs.declared.SlipError.TheVariants.{Malformed, NoRoom}
use Rattle.slip.proofs.Slips.{slip_read, slip_only}
use Rattle.leb128.proofs.Puts.{Put}

-- no two answers have the same numbers
pub numbers_only : (r s : SlipRead) → slip_read_numbers r ≡ slip_read_numbers s → r ≡ s
unfolding slip_read_numbers
numbers_only (Ok h) (Ok g) e =
    let i : h.id ≡ g.id = cc in
    let s : h.scale ≡ g.scale = cc in
    let a : h.a ≡ g.a = cc in
    let b : h.b ≡ g.b = cc in
    let p : h.pairs ≡ g.pairs = cc in
    λ j. Ok (record { id = i j; scale = s j; a = a j; b = b j; pairs = p j })
numbers_only (Ok h) (Err (Malformed q)) e = absurd (let z : ◌≡◌ {A = ℕ} 0 17 = cc in omega arith)
numbers_only (Ok h) (Err NoRoom) e = absurd (let z : ◌≡◌ {A = ℕ} 0 16 = cc in omega arith)
numbers_only (Err (Malformed p)) (Ok g) e = absurd (let z : ◌≡◌ {A = ℕ} 17 0 = cc in omega arith)
numbers_only (Err (Malformed p)) (Err (Malformed q)) e = let w : p ≡ q = cc in ap (λ (x : ℕ). Err (Malformed x)) w
numbers_only (Err (Malformed p)) (Err NoRoom) e = absurd (let z : ◌≡◌ {A = ℕ} 17 16 = cc in omega arith)
numbers_only (Err NoRoom) (Ok g) e = absurd (let z : ◌≡◌ {A = ℕ} 16 0 = cc in omega arith)
numbers_only (Err NoRoom) (Err (Malformed q)) e = absurd (let z : ◌≡◌ {A = ℕ} 16 17 = cc in omega arith)
numbers_only (Err NoRoom) (Err NoRoom) e = refl

-- the slip of some numbers is one
pub one_slip : (any : Bool) (bs cs : List ℕ) (h : Head) (pairs : List ℕ) → IsSlip any bs h pairs → IsSlip any cs h pairs → bs ≡ cs
one_slip any bs cs h pairs s t = s.bytes ∙ sym t.bytes

module _ (any : Bool) (bs room : List ℕ) (r : SlipRead) (after : List ℕ) (reads : Reads any bs room r after) where
  -- a slip written reads back, given room, as the same numbers
  pub reads_back : (h : Head) (pairs : List ℕ) → IsSlip any bs h pairs → length pairs ≤ length room → (r ≡ Ok h) × (after ≡ pairs ++ drop (length pairs) room)
  unfolding slip_read_numbers numbers_for room_for
  reads_back h pairs s l =
      let e = slip_read any bs h pairs s in
      let enough = le-ltb (length room) (length pairs) l in
      (numbers_only r (Ok h) (reads.numbers ∙ ap (numbers_for (length room)) e ∙ rw enough), reads.places ∙ ap (room_for room) e ∙ rw enough)

  -- with less room it is refused 16, and the room stays
  pub reads_no_room : (h : Head) (pairs : List ℕ) → IsSlip any bs h pairs → length room < length pairs → (r ≡ Err NoRoom) × (after ≡ room)
  unfolding slip_read_numbers numbers_for room_for
  reads_no_room h pairs s l =
      let e = slip_read any bs h pairs s in
      let short = lt-ltb (length room) (length pairs) l in
      (numbers_only r (Err NoRoom) (reads.numbers ∙ ap (numbers_for (length room)) e ∙ rw short), reads.places ∙ ap (room_for room) e ∙ rw short)

  -- bytes that are malformed are refused 17 with their place, and the room stays
  pub reads_malformed : (p : ℕ) → slip_in any bs ≡ malformed p → (r ≡ Err (Malformed p)) × (after ≡ room)
  unfolding slip_read_numbers numbers_for room_for
  reads_malformed p e = (numbers_only r (Err (Malformed p)) (reads.numbers ∙ ap (numbers_for (length room)) e), reads.places ∙ ap (room_for room) e)

  -- bytes that are no slip are refused 17, and the room stays
  pub none_malformed : ((h : Head) (pairs : List ℕ) → IsSlip any bs h pairs → ⊥) → (p : ℕ) × (r ≡ Err (Malformed p)) × (after ≡ room)
  none_malformed none = go (slip_in any bs) refl
    where
      go : (o : Outcome) → slip_in any bs ≡ o → (p : ℕ) × (r ≡ Err (Malformed p)) × (after ≡ room)
      go (accepted h pairs) e = absurd (none h pairs (slip_only any bs h pairs e))
      go (malformed p) e = let m = reads_malformed p e in (p, m.0, m.1)

  -- and only those are
  pub malformed_none : (p : ℕ) → r ≡ Err (Malformed p) → (h : Head) (pairs : List ℕ) → IsSlip any bs h pairs → ⊥
  malformed_none p e h pairs s = go (ltb (length room) (length pairs)) refl
    where
      go : (f : Bool) → ltb (length room) (length pairs) ≡ f → ⊥
      go true f = let q = (reads_no_room h pairs s (ltb-true (length room) (length pairs) f)).0 in let z : ◌≡◌ {A = ℕ} 0 1 = cc in omega arith
      go false f = let q = (reads_back h pairs s (ltb-false (length room) (length pairs) f)).0 in let z : ◌≡◌ {A = ℕ} 0 1 = cc in omega arith

  -- a slip accepted is the only writing of its numbers, and the room has its pairs
  pub accepted_only : (h : Head) → r ≡ Ok h → (pairs : List ℕ) × IsSlip any bs h pairs × (after ≡ pairs ++ drop (length pairs) room)
  accepted_only h e = go (slip_in any bs) refl
    where
      Only : Head → Type 0
      Only g = (pairs : List ℕ) × IsSlip any bs g pairs × (after ≡ pairs ++ drop (length pairs) room)

      test : (g : Head) (pairs : List ℕ) → IsSlip any bs g pairs → (f : Bool) → ltb (length room) (length pairs) ≡ f → Only h
      test g pairs s true f = absurd (let q = (reads_no_room g pairs s (ltb-true (length room) (length pairs) f)).0 in let z : ◌≡◌ {A = ℕ} 0 1 = cc in omega arith)
      test g pairs s false f =
          let b = reads_back g pairs s (ltb-false (length room) (length pairs) f) in
          let q : g ≡ h = cc in
          subst Only q (pairs, s, b.1)

      go : (o : Outcome) → slip_in any bs ≡ o → Only h
      go (accepted g pairs) f = test g pairs (slip_only any bs g pairs f) (ltb (length room) (length pairs)) refl
      go (malformed p) f = absurd (let q = (reads_malformed p f).0 in let z : ◌≡◌ {A = ℕ} 0 1 = cc in omega arith)

-- a slip that was put number by number into lent bytes, after the form that its numbers want, reads back from them
pub put_reads_back : (any : Bool) (out₀ : List ℕ) (h : Head) (pairs : List ℕ) (wide : Bool) → any_wide (after_form h pairs) ≡ wide → (at : ℕ) (out : List ℕ)
    → length (slip_bytes h pairs) ≤ length out₀ → Put out₀ (head_numbers (form_for wide) h pairs) at out → Rules (bound_of any) h pairs
    → (room : List ℕ) (r : SlipRead) (after : List ℕ) → length pairs ≤ length room → Reads any (take at out) room r after → (r ≡ Ok h) × (after ≡ pairs ++ drop (length pairs) room)
put_reads_back any out₀ h pairs wide form at out fits put rules room r after l reads = reads_back any (take at out) room r after reads h pairs (record { bytes = whole; rules = rules }) l
  where
    whole : take at out ≡ slip_bytes h pairs
    whole = let p = put_slip out₀ h pairs wide form at out fits put in ap (take at) p.1 ∙ take_at (slip_bytes h pairs) (drop (length (slip_bytes h pairs)) out₀) at (sym p.0)
