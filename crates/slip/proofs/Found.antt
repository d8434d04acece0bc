-- Stepping through a slip number by number finds what `specs/Slip.antt` says of its bytes: `found_accepted`, by what a run of all its numbers says, over the width, and
-- `found_malformed`, by where the first fault of its pieces is (`Faults`).
-- Assumes nothing.
use mathlib.Core.Path.{◌≡◌, refl, ap, sym, subst, ◌∙◌}
use mathlib.Core.Bool.{Bool, true, false, cond, ◌&&◌}
use mathlib.Core.List.{List, ◌++◌}
use Prim.Native.Nat.{ℕ, ◌+◌, ◌*◌, ◌<◌, ◌≤◌, ◌^◌}
use native.Mathlib.Omega.{arith}
use lib.Dec.{eqb, lit<, lit≤}
use lib.ListN.{length, get_or, drop}
use borrow.Author.Tests.{eqb-true, lt-ltb, le-ltb}
use Rattle.lists.proofs.Booleans.{and_both}
use Rattle.leb128.specs.Numbers.{groups, writes, cut, values}
use Rattle.leb128.specs.Reading.{NumberRead, found, limit, read_at, more_of, top_of}
use Rattle.std.specs.Prelude.{Ok, Err, map}
use Rattle.leb128.proofs.Groups.{number_written}
use Rattle.leb128.proofs.Readings.{read_good, read_next, width}
use Rattle.slip_head.specs.Bytes.{after_form, any_wide, form_for, Rules}
use Rattle.slip_head.specs.declared.Head.{Head}
use Rattle.slip_head.proofs.Writes.{slip_form}
use Rattle.slip_head.proofs.Forms.{below_narrow, narrow_below, widen, rules_at, all_below, but_count}
use Rattle.slip.specs.Slip.{Fault, none, at, fault_from, Outcome, accepted, malformed, outcome_of, slip_in, bound_of, IsSlip, SlipRead, slip_read_numbers, numbers_for, room_for, stored_for, Reads}
use Rattle.number_values.specs.Values.{values_from}
use Rattle.slip_scan.specs.Steps.{SlipScan, slip_at, malformed_at, rest_in, widened, wide_in, by_form, scan_in}
use Rattle.slip_scan.specs.declared.Scanned.{Scanned}
use Rattle.slip_numbers.specs.declared.Malformed.{Malformed}
use Rattle.std.proofs.lemmas.List.{map-id}
use Rattle.slip.specs.declared.SlipError.TheVariants as SlipError
use Rattle.slip_scan.proofs.Rest.{as_wide}
use Rattle.slip.proofs.Slips.{rules_none, slip_read}
use Rattle.slip.proofs.Rests.{IsRest, rest_only}
use Rattle.slip.proofs.Faults.{rest-fault, found_fault}

-- a good number below 2 ^ 32 is one of either width
as_any : (bs : List ℕ) → ((x : ℕ) → get_or bs x 0 < 256) → (any : Bool) (x n next : ℕ) → read_at 4 16 bs x ≡ found n next → read_at (more_of any) (top_of any) bs x ≡ found n next
as_any bs are true x n next e = as_wide bs are false x n next e
as_any bs are false x n next e = e

-- ---- the form and what follows it

-- what is found as a slip is that slip's bytes
module _ (any : Bool) (bs : List ℕ) (h : Head) (place : ℕ) (are : (x : ℕ) → get_or bs x 0 < 256) where
  abbrev ps : List ℕ
  ps = values_from (more_of any) (top_of any) bs (2 * h.pairs) place

  -- the form's bytes before the rest
  start : (n next : ℕ) → read_at 4 16 bs 0 ≡ found n next → bs ≡ groups n ++ drop next bs
  unfolding groups
  start n next q =
      let g = read_good 16 bs 0 4 n next q in
      let same : g.0 ≡ next = omega (arith, g.2) in
      (number_written 4 16 9 bs n g.0 (lit< tt) (lit≤ tt) (lit≤ tt) are g.1).bytes ∙ ap (λ (x : ℕ). groups n ++ drop x bs) same

  with_form : (wide : Bool) (n next : ℕ) → read_at 4 16 bs 0 ≡ found n next → n ≡ form_for wide → drop next bs ≡ writes (after_form h ps) → any_wide (after_form h ps) ≡ wide → Rules (bound_of any) h ps → IsSlip any bs h ps
  unfolding writes
  with_form wide n next q f b w r =
      record {
        bytes = start n next q ∙ ap (λ (x : List ℕ). groups n ++ x) b ∙ ap (λ (x : ℕ). groups x ++ writes (after_form h ps)) f ∙ sym (slip_form h ps wide w);
        rules = r;
      }

  narrow_bound : (b : Bool) → 2 ^ 32 ≤ bound_of b
  narrow_bound true = omega arith
  narrow_bound false = omega arith

  found_one : (n next : ℕ) → read_at 4 16 bs 0 ≡ found n next → n ≡ 1 → rest_in 4 16 bs next ≡ slip_at h place → IsSlip any bs h ps
  unfolding limit
  found_one n next q f e =
      let r = rest_only 4 16 (more_of any) (top_of any) (lit≤ tt) (lit< tt) (lit≤ tt) bs (as_any bs are any) next h place are e in
      let b = all_below (2 ^ 32) h ps (omega arith) r.rules in
      with_form false n next q f r.bytes (below_narrow (after_form h ps) b)
      (rules_at (2 ^ 32) (bound_of any) h ps r.rules (but_count (bound_of any) h ps (widen (2 ^ 32) (bound_of any) (after_form h ps) (narrow_bound any) b)))

  -- past form 2 some number is 2 ^ 32 or more, since the rest is none with numbers below it
  found_two : any ≡ true → (n next : ℕ) → read_at 4 16 bs 0 ≡ found n next → n ≡ 2 → (p : ℕ) → rest_in 4 16 bs next ≡ malformed_at p → rest_in 9 2 bs next ≡ slip_at h place → IsSlip any bs h ps
  unfolding limit
  found_two y n next q f p m e = go (any_wide (after_form h ps)) refl
    where
      rest : IsRest 9 2 bs next h ps
      rest = rest_only 9 2 (more_of any) (top_of any) (lit≤ tt) (lit< tt) (lit≤ tt) bs (λ x k l g. rw y g) next h place are e

      go : (g : Bool) → any_wide (after_form h ps) ≡ g → IsSlip any bs h ps
      go true g = with_form true n next q f rest.bytes g (subst (λ (b : Bool). Rules (bound_of b) h ps) (sym y) rest.rules)
      go false g =
          let b = but_count (2 ^ 32) h ps (narrow_below (after_form h ps) g) in
          let clean = (rules_none 4 (2 ^ 32) 0 next h ps (omega arith) (omega arith) (rules_at (2 ^ 64) (2 ^ 32) h ps rest.rules b)).0 in
          let l = (read_next 16 bs 0 4 n next (lit< tt) (lit≤ tt) are q).1 in
          let some = rest-fault 4 16 (lit< tt) (lit≤ tt) (lit≤ tt) (omega arith) bs are 0 next p l m in
          let both : none ≡ at p = sym clean ∙ sym (ap (λ (x : List ℕ). fault_from 4 (2 ^ 32) 1 0 6 next (cut x)) rest.bytes) ∙ some in
          absurd (let z : ◌≡◌ {A = ℕ} 0 1 = cc in omega arith)

  found_only : scan_in any bs ≡ slip_at h place → IsSlip any bs h ps
  unfolding scan_in by_form wide_in widened
  found_only e = go (read_at 4 16 bs 0) refl e
    where
      wide : (n next : ℕ) → read_at 4 16 bs 0 ≡ found n next → any ≡ true → n ≡ 2 → (u : SlipScan) → rest_in 4 16 bs next ≡ u → widened u (rest_in 9 2 bs next) ≡ slip_at h place → IsSlip any bs h ps
      wide n next q y f (Ok s) m e' = absurd (let z : ◌≡◌ {A = ℕ} 0 1 = cc in omega arith)
      wide n next q y f (Err w) m e' = found_two y n next q f w.place m e'

      second : (n next : ℕ) → read_at 4 16 bs 0 ≡ found n next → (f : Bool) → (any && eqb n 2) ≡ f → cond f (wide_in bs next) (malformed_at 0) ≡ slip_at h place → IsSlip any bs h ps
      second n next q true f e' = let u = and_both any (eqb n 2) f in wide n next q u.0 (eqb-true n 2 u.1) (rest_in 4 16 bs next) refl e'
      second n next q false f e' = absurd (let z : ◌≡◌ {A = ℕ} 0 1 = cc in omega arith)

      first : (n next : ℕ) → read_at 4 16 bs 0 ≡ found n next → (f : Bool) → eqb n 1 ≡ f → cond f (rest_in 4 16 bs next) (cond (any && eqb n 2) (wide_in bs next) (malformed_at 0)) ≡ slip_at h place → IsSlip any bs h ps
      first n next q true f e' = found_one n next q (eqb-true n 1 f) e'
      first n next q false f e' = second n next q (any && eqb n 2) refl e'

      go : (r : NumberRead) → read_at 4 16 bs 0 ≡ r → by_form any bs r ≡ slip_at h place → IsSlip any bs h ps
      go (Ok got) q e' = first got.value got.next q (eqb got.value 1) refl e'
      go (Err fault) q e' = absurd (let z : ◌≡◌ {A = ℕ} 0 1 = cc in omega arith)

-- ---- what `find_slip` answers, in the words of `specs/Slip.antt`

module _ (any : Bool) (bs : List ℕ) (are : (x : ℕ) → get_or bs x 0 < 256) (r : SlipScan) (is : r ≡ scan_in any bs) where
  pub found_accepted : (s : Scanned) → r ≡ Ok s → slip_in any bs ≡ accepted s.head (values_from (more_of any) (top_of any) bs (2 * s.head.pairs) s.pairs_at)
  found_accepted s q = slip_read any bs s.head _ (found_only any bs s.head s.pairs_at are (sym is ∙ q))

  pub found_few : (s : Scanned) → r ≡ Ok s → s.head.pairs ≤ 1048576
  found_few s q = (found_only any bs s.head s.pairs_at are (sym is ∙ q)).rules.few_pairs

  pub found_malformed : (m : Malformed) → r ≡ Err m → slip_in any bs ≡ malformed m.place
  unfolding slip_in outcome_of
  found_malformed m q = ap (λ (f : Fault). outcome_of f (values (cut bs))) (found_fault any bs are m.place (sym is ∙ q))

-- ---- the answer and the room, in each of the three cases

-- what reading into room does, whose numbers are stored so
pub record Into {A : Type 0} (stored : ℕ → A) (any : Bool) (bs : List ℕ) (room : List A) (r : SlipRead) (after : List A) : Type 0 where
  pub numbers : slip_read_numbers r ≡ numbers_for (length room) (slip_in any bs)
  pub places : after ≡ stored_for stored room (slip_in any bs)

module _ {A : Type 0} (stored : ℕ → A) (any : Bool) (bs : List ℕ) (room : List A) where
  pub into_malformed : (p : ℕ) → slip_in any bs ≡ malformed p → Into stored any bs room (Err (SlipError.Malformed p)) room
  unfolding slip_read_numbers numbers_for stored_for
  into_malformed p e = record { numbers = sym (ap (numbers_for (length room)) e); places = sym (ap (stored_for stored room) e) }

  module _ (h : Head) (ps : List ℕ) (e : slip_in any bs ≡ accepted h ps) (n : length ps ≡ 2 * h.pairs) where
    pub into_no_room : length room < 2 * h.pairs → Into stored any bs room (Err SlipError.NoRoom) room
    unfolding slip_read_numbers numbers_for stored_for
    into_no_room s =
        let short = lt-ltb (length room) (2 * h.pairs) s in
        record { numbers = sym (ap (numbers_for (length room)) e ∙ rw (n, short)); places = sym (ap (stored_for stored room) e ∙ rw (n, short)) }

    pub into_accepted : 2 * h.pairs ≤ length room → (after : List A) → after ≡ map stored ps ++ drop (2 * h.pairs) room → Into stored any bs room (Ok h) after
    unfolding slip_read_numbers numbers_for stored_for
    into_accepted s after f =
        let enough = le-ltb (length room) (2 * h.pairs) s in
        record { numbers = sym (ap (numbers_for (length room)) e ∙ rw (n, enough)); places = f ∙ sym (ap (stored_for stored room) e ∙ rw (n, enough)) }

-- room whose numbers are stored as they are
pub stored_plain : (room : List ℕ) (o : Outcome) → stored_for (λ (x : ℕ). x) room o ≡ room_for room o
unfolding stored_for room_for
stored_plain room (accepted h pairs) = rw map-id
stored_plain room (malformed place) = refl

-- what the question promises of such room
reads_plain : (any : Bool) (bs room : List ℕ) (r : SlipRead) (after : List ℕ) → Into (λ (x : ℕ). x) any bs room r after → Reads any bs room r after
reads_plain any bs room r after i = record { numbers = i.numbers; places = i.places ∙ stored_plain room (slip_in any bs) }

pub reads_malformed : (any : Bool) (bs room : List ℕ) (p : ℕ) → slip_in any bs ≡ malformed p → Reads any bs room (Err (SlipError.Malformed p)) room
reads_malformed any bs room p e = reads_plain any bs room _ _ (into_malformed (λ (x : ℕ). x) any bs room p e)

module _ (any : Bool) (bs room : List ℕ) (h : Head) (ps : List ℕ) (e : slip_in any bs ≡ accepted h ps) (n : length ps ≡ 2 * h.pairs) where
  pub reads_no_room : length room < 2 * h.pairs → Reads any bs room (Err SlipError.NoRoom) room
  reads_no_room s = reads_plain any bs room _ _ (into_no_room (λ (x : ℕ). x) any bs room h ps e n s)

  pub reads_accepted : 2 * h.pairs ≤ length room → (after : List ℕ) → after ≡ ps ++ drop (2 * h.pairs) room → Reads any bs room (Ok h) after
  reads_accepted s after f = reads_plain any bs room _ _ (into_accepted (λ (x : ℕ). x) any bs room h ps e n s after (rw map-id f))
