-- What `find_rest`, `find_wide` and `find_slip` answer, by what their calls answer; over the width.
-- Assumes nothing.
use mathlib.Core.Path.{◌≡◌, refl, ap, sym, subst, ◌∙◌}
use mathlib.Core.Bool.{Bool, true, false}
use mathlib.Core.List.{List, [], ◌∷◌, ◌++◌}
use Prim.Native.Nat.{ℕ, ◌*◌, ◌<◌, ◌≤◌}
use native.Mathlib.Omega.{arith}
use lib.Dec.{ltb, leb, lit<}
use lib.ListN.{length, get_or, get_or-append}
use borrow.Author.Tests.{leb-true, eq-eqb, ne_eqb}
use Rattle.lists.proofs.Booleans.{and_both, and_false}
use Rattle.leb128.specs.Reading.{NumberRead, found, place_of, limit, read_at, more_of, top_of}
use Rattle.std.specs.Prelude.{Ok, Err}
use Rattle.leb128.specs.declared.number.Number.{Number}
use Rattle.leb128.specs.declared.number.NumberFault.{NumberFault}
use Rattle.leb128.proofs.Groups.{limit64}
use Rattle.leb128.proofs.Readings.{read_wider, width}
use Rattle.slip_head.specs.declared.Head.{Head}
use Rattle.number_values.specs.Values.{values_from}
use Rattle.number_values.proofs.Values.{length_values}
use Rattle.slip_numbers.specs.Rules.{allowed}
use Rattle.slip_numbers.specs.Steps.{NumberRun, all, stopped, run, Checked, fault_at, checked_of}
use Rattle.slip_numbers.proofs.Runs.{Allowed, run_ran, run_values, checked_all, checked_stopped}
use Rattle.slip_scan.specs.Steps.{SlipScan, slip_at, malformed_at, after_pairs, after_head, rest_in, widened, wide_in, by_form, scan_in}
use Rattle.slip_numbers.specs.declared.Malformed.{Malformed}
use Rattle.slip_scan.specs.declared.Scanned.{Scanned}

-- the five numbers that follow the form, before the pairs
abbrev pub head : Head → List ℕ
head h = h.id ∷ h.scale ∷ h.a ∷ h.b ∷ h.pairs ∷ []

-- a head of five numbers
abbrev pub head_of : List ℕ → Head
head_of ns = record { id = get_or ns 0 0; scale = get_or ns 1 0; a = get_or ns 2 0; b = get_or ns 3 0; pairs = get_or ns 4 0 }

pub five : (ns : List ℕ) → length ns ≡ 5 → ns ≡ head (head_of ns)
five [] e = absurd (omega arith)
five (x₀ ∷ []) e = absurd (omega arith)
five (x₀ ∷ x₁ ∷ []) e = absurd (omega arith)
five (x₀ ∷ x₁ ∷ x₂ ∷ []) e = absurd (omega arith)
five (x₀ ∷ x₁ ∷ x₂ ∷ x₃ ∷ []) e = absurd (omega arith)
five (x₀ ∷ x₁ ∷ x₂ ∷ x₃ ∷ x₄ ∷ []) e = refl
five (x₀ ∷ x₁ ∷ x₂ ∷ x₃ ∷ x₄ ∷ x₅ ∷ ns) e = absurd (omega arith)

-- a good number of either width is one below 2 ^ 64
module _ (bs : List ℕ) (are : (x : ℕ) → get_or bs x 0 < 256) where
  pub as_wide : (wide : Bool) (x n next : ℕ) → read_at (more_of wide) (top_of wide) bs x ≡ found n next → read_at 9 2 bs x ≡ found n next
  as_wide wide x =
      let w = width wide in
      let v = width true in
      read_wider (more_of wide) (top_of wide) 9 2 bs x w.some w.seven w.ten v.seven (omega (arith, w.fits, limit64)) w.fits are

-- ---- what `find_rest` answers, by what its calls answer: first and second are the checks, and l is the array that was filled

pub rest_head : (k top : ℕ) (bs : List ℕ) (from : ℕ) (first : Checked) → first ≡ checked_of (run k top bs 5 1 0 from) → (p : ℕ) → first ≡ fault_at p → rest_in k top bs from ≡ malformed_at p
unfolding rest_in after_head
rest_head k top bs from first is p q = ap (after_head k top bs) (checked_stopped (run k top bs 5 1 0 from) p (sym q ∙ is))

pub filled_at : (k' top' : ℕ) (bs : List ℕ) (from : ℕ) (l more : List ℕ) → l ≡ values_from k' top' bs 5 from ++ more → (i : ℕ) → i < 5 → get_or l i 0 ≡ get_or (values_from k' top' bs 5 from) i 0
filled_at k' top' bs from l more e i h =
    let n : i < length (values_from k' top' bs 5 from) = rw (length_values k' top' bs 5 from) h in
    ap (λ (x : List ℕ). get_or x i 0) e ∙ get_or-append (values_from k' top' bs 5 from) more 0 i n

module _ (k top k' top' : ℕ) (bs : List ℕ) (wider : (x n next : ℕ) → read_at k top bs x ≡ found n next → read_at k' top' bs x ≡ found n next) (from at : ℕ) (first : Checked) (is : first ≡ checked_of (run k top bs 5 1 0 from)) (whole : first ≡ Ok at) (l more : List ℕ) (filled : l ≡ values_from k' top' bs 5 from ++ more) (second : Checked) (pairs : second ≡ checked_of (run k top bs (2 * get_or l 4 0) 6 0 at)) where
  abbrev hs : List ℕ
  hs = values_from k' top' bs 5 from

  by_pairs : (u : NumberRun) → run k top bs (2 * get_or hs 4 0) 6 0 at ≡ u → rest_in k top bs from ≡ after_pairs bs hs at u
  unfolding rest_in after_head
  by_pairs u f =
      let r = checked_all (run k top bs 5 1 0 from) at (sym whole ∙ is) in
      let v : hs ≡ r.0 = run_values k top k' top' bs wider 5 1 0 from r.0 at r.1 in
      ap (after_head k top bs) r.1 ∙ ap (λ (x : List ℕ). after_pairs bs x at (run k top bs (2 * get_or x 4 0) 6 0 at)) (sym v) ∙ ap (after_pairs bs hs at) f

  known : (u : Checked) → second ≡ u → u ≡ checked_of (run k top bs (2 * get_or hs 4 0) 6 0 at)
  known u q = sym q ∙ pairs ∙ ap (λ (x : ℕ). checked_of (run k top bs (2 * x) 6 0 at)) (filled_at k' top' bs from l more filled 4 (lit< tt))

  pub rest_stopped : (p : ℕ) → second ≡ fault_at p → rest_in k top bs from ≡ malformed_at p
  unfolding after_pairs
  rest_stopped p q = by_pairs (stopped p) (checked_stopped (run k top bs (2 * get_or hs 4 0) 6 0 at) p (known (fault_at p) q))

  pub rest_surplus : (end : ℕ) → second ≡ Ok end → (end ≡ length bs → ⊥) → rest_in k top bs from ≡ malformed_at end
  unfolding after_pairs
  rest_surplus end q ne = let r = checked_all (run k top bs (2 * get_or hs 4 0) 6 0 at) end (known (Ok end) q) in by_pairs (all r.0 end) r.1 ∙ rw (ne_eqb end (length bs) ne)

  pub rest_whole : (end : ℕ) → second ≡ Ok end → end ≡ length bs → rest_in k top bs from ≡ slip_at (head_of l) at
  unfolding after_pairs
  rest_whole end q eq =
      let r = checked_all (run k top bs (2 * get_or hs 4 0) 6 0 at) end (known (Ok end) q) in
      let x : (i : ℕ) → i < 5 → get_or l i 0 ≡ get_or hs i 0 = filled_at k' top' bs from l more filled in
      by_pairs (all r.0 end) r.1 ∙ rw (eq-eqb end (length bs) eq, x 0 (lit< tt), x 1 (lit< tt), x 2 (lit< tt), x 3 (lit< tt), x 4 (lit< tt))

-- ---- what `find_slip` answers, by what the form is

module _ (any : Bool) (bs : List ℕ) (r : NumberRead) (is : r ≡ read_at 4 16 bs 0) where
  by-form : (u : NumberRead) → r ≡ u → scan_in any bs ≡ by_form any bs u
  unfolding scan_in
  by-form u q = ap (by_form any bs) (sym is ∙ q)

  pub form_one : (n : Number) → r ≡ Ok n → n.value ≡ 1 → scan_in any bs ≡ rest_in 4 16 bs n.next
  unfolding by_form
  form_one n q e = by-form (Ok n) q ∙ rw (eq-eqb n.value 1 e)

  pub form_two : (n : Number) → r ≡ Ok n → any ≡ true → n.value ≡ 2 → scan_in any bs ≡ wide_in bs n.next
  unfolding by_form
  form_two n q y e = by-form (Ok n) q ∙ rw (ne_eqb n.value 1 (λ z. omega arith), eq-eqb n.value 2 e, y)

  pub form_old : (n : Number) → r ≡ Ok n → any ≡ false → (n.value ≡ 1 → ⊥) → scan_in any bs ≡ malformed_at 0
  unfolding by_form
  form_old n q y ne = by-form (Ok n) q ∙ rw (ne_eqb n.value 1 ne, y)

  pub form_other : (n : Number) → r ≡ Ok n → (n.value ≡ 1 → ⊥) → (n.value ≡ 2 → ⊥) → scan_in any bs ≡ malformed_at 0
  unfolding by_form
  form_other n q ne ne₂ = by-form (Ok n) q ∙ rw (ne_eqb n.value 1 ne, ne_eqb n.value 2 ne₂, and_false any)

  pub form_none : (fault : NumberFault) → r ≡ Err fault → scan_in any bs ≡ malformed_at (place_of fault)
  unfolding by_form
  form_none fault q = by-form (Err fault) q

-- what `find_wide` answers, by the rest with numbers below 2 ^ 32
pub wide_none : (bs : List ℕ) (from : ℕ) (r : SlipScan) → r ≡ rest_in 4 16 bs from → (s : Scanned) → r ≡ Ok s → wide_in bs from ≡ malformed_at 0
unfolding wide_in widened
wide_none bs from r is s q = ap (λ (u : SlipScan). widened u (rest_in 9 2 bs from)) (sym is ∙ q)

pub wide_rest : (bs : List ℕ) (from : ℕ) (r : SlipScan) → r ≡ rest_in 4 16 bs from → (m : Malformed) → r ≡ Err m → wide_in bs from ≡ rest_in 9 2 bs from
unfolding wide_in widened
wide_rest bs from r is m q = ap (λ (u : SlipScan). widened u (rest_in 9 2 bs from)) (sym is ∙ q)

-- five numbers that were checked: the number of pairs is small
pub head_few : (k top k' top' : ℕ) (bs : List ℕ) (from at : ℕ) → top ≤ 128 → 0 < top → k ≤ 9 → ((x n next : ℕ) → read_at k top bs x ≡ found n next → read_at k' top' bs x ≡ found n next)
    → ((x : ℕ) → get_or bs x 0 < 256) → Ok at ≡ checked_of (run k top bs 5 1 0 from) → get_or (values_from k' top' bs 5 from) 4 0 ≤ 1048576
unfolding allowed
head_few k top k' top' bs from at t p nine wider are e =
    let r = checked_all (run k top bs 5 1 0 from) at e in
    let s = run_ran k top bs 5 1 0 from r.0 at p t nine are r.1 in
    let w = five r.0 s.count in
    let a = subst (Allowed (limit k top) 1 0) w s.are in
    let l = leb-true (get_or r.0 4 0) 1048576 (and_both (ltb 0 (get_or r.0 4 0)) (leb (get_or r.0 4 0) 1048576) a.2.2.2.2.1).1 in
    omega (arith, l, ap (λ (x : List ℕ). get_or x 4 0) (run_values k top k' top' bs wider 5 1 0 from r.0 at r.1))
